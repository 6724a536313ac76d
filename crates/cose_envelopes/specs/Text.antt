-- What is signed, sealed and authenticated: the Sig_structure (RFC 9052, section 4.4), the Enc_structure (section 5.3) and
-- the MAC_structure (section 6.3), in the deterministic encoding. There is never external data, so its bytes are empty.
use Rattle.std.specs.Prelude.{ℕ, List, [], ◌∷◌, codes}
use Rattle.cbor_core.specs.declared.item.Item.TheVariants as items
use Rattle.cbor_core.specs.Deterministic.{det}

unfoldable pub sign1_structure : List ℕ → List ℕ → List ℕ
sign1_structure protected payload = det (items.Array (items.Text (codes "Signature1") ∷ items.Bytes protected ∷ items.Bytes [] ∷ items.Bytes payload ∷ []))

unfoldable pub mac0_structure : List ℕ → List ℕ → List ℕ
mac0_structure protected payload = det (items.Array (items.Text (codes "MAC0") ∷ items.Bytes protected ∷ items.Bytes [] ∷ items.Bytes payload ∷ []))

unfoldable pub encrypt0_structure : List ℕ → List ℕ
encrypt0_structure protected = det (items.Array (items.Text (codes "Encrypt0") ∷ items.Bytes protected ∷ items.Bytes [] ∷ []))
