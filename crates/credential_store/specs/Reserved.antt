-- A credential that is reserved, and the generation that it goes into.
use Rattle.std.specs.Prelude.{ℕ, Option, Some, None}
use Rattle.voucher_chain.specs.declared.credential.Credential.{Credential}
use Rattle.credential_store.specs.declared.reserved.Reserved.{Reserved}

abbrev pub credential_reserved : Option Reserved → Option Credential
credential_reserved None = None
credential_reserved (Some r) = Some r.credential

abbrev pub generation_reserved : ℕ → Option Reserved → ℕ
generation_reserved generation None = generation
generation_reserved generation (Some r) = r.generation
