-- The credential of a device in a session.
use Rattle.std.specs.Prelude.{pos, [], Option, Some, None}
use Rattle.hash_hmac.specs.Value.{hash_value}
use Rattle.voucher_chain.specs.declared.credential.Credential.{Credential}

abbrev pub no_credential : Credential
no_credential = record { guid = []; rv = []; info = []; secret = []; key_hash = hash_value (pos 0) []; alg = 0 }

-- that of its store, which has one
abbrev pub credential_in : Option Credential → Credential
credential_in (Some c) = c
credential_in None = no_credential
