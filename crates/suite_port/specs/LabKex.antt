-- The key agreement of the laboratory suite, LAB32.
use Rattle.std.specs.Prelude.{ℕ, ◌==◌, ◌&&◌, List, ◌++◌, length, codes, Bool, Option}
use Rattle.std.specs.Str.{bytes_eq}
use Rattle.sha2.specs.Sha256.{sha256}
use Rattle.suite_port.specs.Answer.{only_if}

abbrev pub is_lab_name : List ℕ → Bool
is_lab_name name = bytes_eq name (codes "LAB32")

-- the shared secret, of what both ends sent
abbrev pub lab_secret : List ℕ → List ℕ → List ℕ
lab_secret xa xb = sha256 (codes "FDO-LAB-SH" ++ xa ++ xb)

-- xA is what was drawn, and so is the private part
abbrev pub lab_first : List ℕ → List ℕ → List ℕ × List ℕ
lab_first name draw = (draw, draw)

-- xB is what was drawn; an xA has 32 bytes
abbrev pub lab_second : List ℕ → List ℕ → List ℕ → Option (List ℕ × List ℕ)
lab_second name draw xa = only_if (is_lab_name name && (length xa == 32)) (draw, lab_secret xa draw)

-- the private part is xA; both have 32 bytes
abbrev pub lab_finish : List ℕ → List ℕ → List ℕ → Option (List ℕ)
lab_finish name private xb = only_if (is_lab_name name && (length private == 32) && (length xb == 32)) (lab_secret private xb)
