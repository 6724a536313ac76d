-- The text that shows a voucher, line by line.
use Rattle.std.specs.Prelude.{ℕ, ◌+◌, ◌==◌, ℤ, nat_lt, List, [], ◌∷◌, ◌++◌, length, map, flat_map, codes, ◌||◌, if◌then◌else◌, Option, Some, None}
use Rattle.std.specs.Fmt.{decimal, signed_decimal}
use Rattle.std.specs.Ordering.{int_eq}
use Rattle.hex.specs.Hex.{encode_lower}
use Rattle.sha2.specs.Sha256.{sha256}
use Rattle.uuid.specs.Text.{hyphenated_text, lower}
use Rattle.hash_hmac.specs.Kind.{hmac_sha256_kind}
use Rattle.hash_hmac.specs.Value.{content}
use Rattle.key_codec.specs.declared.key.PublicKey.{PublicKey}
use Rattle.voucher_chain.specs.declared.entry.Entry.{Entry}
use Rattle.voucher_chain.specs.declared.rv_info.RvInstr.{RvInstr}
use Rattle.voucher_chain.specs.declared.voucher.Voucher.{Voucher}
use Rattle.voucher_tool.specs.Received.{key_received}

-- ---- words

-- a character that does not print is shown as `?`
abbrev pub shown_byte : ℕ → ℕ
shown_byte byte = if nat_lt byte 32 || (byte == 127) then 63 else byte

abbrev pub hash_word : List ℕ → List ℕ
hash_word key = encode_lower (sha256 key)

-- a key's type, encoding, and the hash of its bytes as received
abbrev pub key_words : PublicKey → List ℕ → List ℕ
key_words key raw = signed_decimal key.kind ++ codes " " ++ signed_decimal key.enc ++ codes " " ++ hash_word raw

-- HMAC-SHA-256, or else HMAC-SHA-384, the only other kind of a voucher that was read
abbrev pub mac_word : ℤ → List ℕ
mac_word kind = if int_eq kind hmac_sha256_kind then codes "sha256" else codes "sha384"

abbrev pub chain_word : Option (List (List ℕ)) → List ℕ
chain_word None = codes "none"
chain_word (Some chain) = decimal (length chain)

-- the variables' names (FIDO Device Onboard 1.1, section 3.7)
unfoldable pub variable_name : ℕ → Option (List ℕ)
variable_name n =
    if n == 0 then Some (codes "RVDevOnly")
    else if n == 1 then Some (codes "RVOwnerOnly")
    else if n == 2 then Some (codes "RVIPAddress")
    else if n == 3 then Some (codes "RVDevPort")
    else if n == 4 then Some (codes "RVOwnerPort")
    else if n == 5 then Some (codes "RVDns")
    else if n == 6 then Some (codes "RVSvCertHash")
    else if n == 7 then Some (codes "RVClCertHash")
    else if n == 8 then Some (codes "RVUserInput")
    else if n == 9 then Some (codes "RVWifiSsid")
    else if n == 10 then Some (codes "RVWifiPw")
    else if n == 11 then Some (codes "RVMedium")
    else if n == 12 then Some (codes "RVProtocol")
    else if n == 13 then Some (codes "RVDelaysec")
    else if n == 14 then Some (codes "RVBypass")
    else if n == 15 then Some (codes "RVExtRV")
    else None

-- a variable of no name is shown by its number
abbrev pub name_or_number : ℕ → Option (List ℕ) → List ℕ
name_or_number n None = decimal n
name_or_number n (Some name) = name

abbrev pub variable_word : ℕ → List ℕ
variable_word n = name_or_number n (variable_name n)

abbrev pub value_word : Option (List ℕ) → List ℕ
value_word None = codes "-"
value_word (Some value) = encode_lower value

-- ---- lines

-- directives and instructions are counted from 0
abbrev pub instr_line : ℕ → ℕ → RvInstr → List ℕ
instr_line d i x = codes "rv " ++ decimal d ++ codes " " ++ decimal i ++ codes " " ++ variable_word x.variable ++ codes " " ++ value_word x.value

abbrev pub directive_lines : ℕ → ℕ → List RvInstr → List (List ℕ)
directive_lines d i [] = []
directive_lines d i (x ∷ xs) = instr_line d i x ∷ directive_lines d (i + 1) xs

abbrev pub rv_lines : ℕ → List (List RvInstr) → List (List ℕ)
rv_lines d [] = []
rv_lines d (x ∷ xs) = directive_lines d 0 x ++ rv_lines (d + 1) xs

-- so are entries
abbrev pub entry_line : ℕ → Entry → List ℕ
entry_line i e = codes "entry " ++ decimal i ++ codes " key " ++ key_words e.key (key_received e)

abbrev pub entry_lines : ℕ → List Entry → List (List ℕ)
entry_lines i [] = []
entry_lines i (e ∷ es) = entry_line i e ∷ entry_lines (i + 1) es

-- what stands above the instructions
unfoldable pub first_lines : Voucher → List (List ℕ)
first_lines v =
    codes "version 101"
    ∷ (codes "guid " ++ hyphenated_text lower v.header.guid)
    ∷ (codes "device " ++ map shown_byte v.header.info)
    ∷ (codes "key " ++ key_words v.header.key v.header.key_raw)
    ∷ (codes "hmac " ++ mac_word v.hmac.kind ++ codes " " ++ encode_lower (content v.hmac))
    ∷ (codes "chain " ++ chain_word v.chain)
    ∷ []

abbrev pub entries_line : List Entry → List ℕ
entries_line es = codes "entries " ++ decimal (length es)

abbrev pub show_lines : Voucher → List (List ℕ)
show_lines v = first_lines v ++ rv_lines 0 v.header.rv ++ entries_line v.entries ∷ entry_lines 0 v.entries

-- ---- text

-- each line ends with a line feed
abbrev pub ended : List ℕ → List ℕ
ended line = line ++ codes "\n"

abbrev pub text_of : List (List ℕ) → List ℕ
text_of lines = flat_map ended lines

abbrev pub show_text : Voucher → List ℕ
show_text v = text_of (show_lines v)
