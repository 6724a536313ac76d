use Rattle.std.proofs.Common.{◌≡◌, sym, ap, ◌∙◌}
use Rattle.cbor_core.specs.Deterministic.{det}
use Rattle.key_codec.specs.declared.key.PublicKey.{PublicKey}
use Rattle.key_codec.specs.Key.{item_of_key, key_in}
use Rattle.key_codec.proofs.Back.{key_back}
use Rattle.key_codec.proofs.Binds.{ok_is}
use Rattle.key_codec.proofs.Norms.{norm_key}
use Rattle.key_codec.proofs.laws.equal_keys.Goals as goal

pub returns : goal.returns
returns c key other is are fit fits = (
  λ e.
      let norms = (c.equal_spellings.ensures (item_of_key key) (item_of_key other) fit fits).0 e in
      let items : item_of_key key ≡ item_of_key other = sym (norm_key key) ∙ norms ∙ norm_key other in
      ok_is key other (sym (key_back key is) ∙ ap key_in items ∙ key_back other are),
  λ e. ap (λ (k : PublicKey). det (item_of_key k)) e,
)
