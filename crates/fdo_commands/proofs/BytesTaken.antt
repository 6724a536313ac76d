-- Bytes read one after another.
use Rattle.std.proofs.Common.{◌≡◌, ℕ, List, [], ◌++◌, Option, None, Some, refl, ap, ◌∙◌}
use Rattle.fdo_ports.specs.Told.{before}
use Rattle.fdo_ports.proofs.Grown.{before_twice}
use Rattle.fdo_commands.specs.Stream.{Took}

pub took_nothing : (left : Option (List ℕ)) → Took left left []
took_nothing None = refl
took_nothing (Some bytes) = refl

pub took_more : (left between left' : Option (List ℕ)) (bytes more : List ℕ) → Took left between bytes → between ≡ before more left' → Took left left' (bytes ++ more)
took_more left between left' bytes more took next = took ∙ ap (before bytes) next ∙ before_twice bytes more left'
