-- What a change writes behind its gate, put together.
use Rattle.std.proofs.Common.{◌≡◌, ℕ, List, [], ◌∷◌, ◌++◌, length, refl, ap, sym, ◌∙◌, append_assoc}
use Rattle.byteorder.specs.Endian.{big_bytes}
use Rattle.disk_port.specs.Slots.{payload}
use Rattle.journal.specs.Records.{framed}
use Rattle.journal.specs.Changing.{snapshot}

pub framed_bytes : (body : List ℕ) → (big_bytes 4 (length body) ++ body) ++ 0 ∷ [] ≡ framed body
unfolding framed
framed_bytes body = append_assoc (big_bytes 4 (length body)) body (0 ∷ [])

pub snapshot_bytes : (g : ℕ) (body : List ℕ) → ((big_bytes 8 g ++ big_bytes 4 (length body)) ++ body) ++ 0 ∷ [] ≡ snapshot g body
unfolding snapshot payload
snapshot_bytes g body = ap (λ l. l ++ 0 ∷ []) (append_assoc (big_bytes 8 g) (big_bytes 4 (length body)) body)
