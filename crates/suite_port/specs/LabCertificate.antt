-- The certificates of the laboratory suite.
use Rattle.std.specs.Prelude.{ℕ, ◌==◌, ◌&&◌, List, [], ◌∷◌, ◌++◌, take, drop, codes, Bool, false, Option}
use Rattle.std.specs.Str.{bytes_eq}
use Rattle.suite_port.specs.Answer.{only_if}

-- a public key of any type is an array of three (FIDO Device Onboard 1.1, section 3.3.4); no more of it is looked at
abbrev pub begins_key : List ℕ → Bool
begins_key [] = false
begins_key (head ∷ rest) = head == 0x83

-- the certificate of a key
abbrev pub lab_certificate : List ℕ → List ℕ
lab_certificate key = codes "FDO-LAB-CERT" ++ key

-- the key of a certificate
abbrev pub lab_key_in : List ℕ → Option (List ℕ)
lab_key_in leaf = only_if (bytes_eq (take 12 leaf) (codes "FDO-LAB-CERT") && begins_key (drop 12 leaf)) (drop 12 leaf)
