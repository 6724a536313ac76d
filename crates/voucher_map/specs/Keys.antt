-- Whether two public keys are equal (FIDO Device Onboard 1.1, "Public Key"): in type, encoding and body.
use Rattle.std.specs.Prelude.{Bool, false, ◌&&◌}
use Rattle.std.specs.Cmp.Lexicographic.{pointwise}
use Rattle.std.specs.Ordering.{int_eq}
use Rattle.std.specs.Str.{bytes_eq}
use Rattle.key_codec.specs.declared.key.PublicKey.{PublicKey}
use Rattle.key_codec.specs.declared.key.KeyBody.{KeyBody}
use Rattle.key_codec.specs.declared.key.KeyBody.TheVariants as body

abbrev pub same_body : KeyBody → KeyBody → Bool
same_body (body.Bytes a) (body.Bytes b) = bytes_eq a b
same_body (body.Chain a) (body.Chain b) = pointwise bytes_eq a b
same_body (body.Cose a) (body.Cose b) = int_eq a.curve b.curve && (bytes_eq a.x b.x && bytes_eq a.y b.y)
same_body a b = false

unfoldable pub same_key : PublicKey → PublicKey → Bool
same_key a b = int_eq a.kind b.kind && (int_eq a.enc b.enc && same_body a.body b.body)
