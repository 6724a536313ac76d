-- Which of the entries a GUID names, and what becomes of it.
use Rattle.std.specs.Prelude.{ℕ, suc, List, [], ◌∷◌, if◌then◌else◌, Option, Some, None, option_map}
use Rattle.voucher_chain.specs.declared.voucher.Voucher.{Voucher}
use Rattle.voucher_map.specs.Map.{names}
use Rattle.voucher_map.specs.declared.kept.Kept.{Kept}
use Rattle.voucher_map.specs.declared.kept.Kept.TheVariants as kept

-- the place of the first
abbrev pub place_of : List ℕ → List Kept → Option ℕ
place_of guid [] = None
place_of guid (entry ∷ entries) = if names guid entry then Some 0 else option_map suc (place_of guid entries)

-- a base has another candidate
abbrev pub candidate_given : Voucher → Kept → Kept
candidate_given voucher (kept.Held base candidate) = kept.Held base (Some voucher)
candidate_given voucher (kept.Sent v) = kept.Sent v

-- a base's candidate takes its place
abbrev pub promoted_entry : Kept → Kept
promoted_entry (kept.Held base (Some candidate)) = kept.Held candidate None
promoted_entry (kept.Held base None) = kept.Held base None
promoted_entry (kept.Sent v) = kept.Sent v
