use Rattle.std.proofs.Common.{◌≡◌, ℕ, List, ◌<◌, ◌^◌, drop, ap, sym, ◌∙◌}
use Rattle.std.specs.Int.{w64, to_be_bytes, from_be_bytes}
use Rattle.std.proofs.lemmas.Nat.{from_be_bytes-to_be_bytes_8}
use Rattle.fdo_rules.specs.Channel.{Side, iv_of, side_byte}
use Rattle.to2_channel.proofs.laws.vectors_differ.Goals as goal

number_of : (side : Side) (n : ℕ) → n < 2 ^ 64 → from_be_bytes w64 (drop 4 (iv_of side n)) ≡ n
number_of side n below = from_be_bytes-to_be_bytes_8 n below

pub returns : goal.returns
returns c side m n hm hn same =
    sym (number_of side m hm) ∙ ap (λ (iv : List ℕ). from_be_bytes w64 (drop 4 iv)) same ∙ number_of side n hn
