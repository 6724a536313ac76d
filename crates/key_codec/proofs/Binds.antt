-- What a chain of readers that succeeded has read.
use Rattle.std.proofs.Common.{◌≡◌, Option, Some, None, option_map, Result, Ok, Err, refl, ap}
use Rattle.std.specs.Prelude.{is_some}
use Rattle.key_codec.specs.declared.fault.KeyFault.{KeyFault}
use Rattle.key_codec.specs.Fault.{◌>>=◌, shaped}

pub bind_ok : {A B : Type 0} (r : Result A KeyFault) (f : A → Result B KeyFault) (y : B) → (r >>= f) ≡ Ok y → (x : A) × (r ≡ Ok x) × (f x ≡ Ok y)
bind_ok (Ok x) f y e = (x, refl, e)
bind_ok (Err d) f y e = absurd cc

pub shaped_ok : {A : Type 0} (o : Option A) (x : A) → shaped o ≡ Ok x → o ≡ Some x
shaped_ok (Some y) x e = cc
shaped_ok None x e = absurd cc

abbrev pub done : {A : Type 0} → A → Result A KeyFault
done x = Ok x

pub ok_is : {A : Type 0} (x y : A) → done x ≡ done y → x ≡ y
ok_is x y e = cc

pub some_is : {A : Type 0} (x y : A) → Some x ≡ Some y → x ≡ y
some_is x y e = cc

pub some_of_map : {A B : Type 0} (f : A → B) (o : Option A) (p : Option B) → option_map f o ≡ p → is_some o ≡ is_some p
some_of_map f (Some x) p e = ap is_some e
some_of_map f None p e = ap is_some e
