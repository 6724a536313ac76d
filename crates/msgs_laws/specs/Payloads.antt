-- The payloads of TO2.ProveOVHdr and TO2.SetupDevice are read as they were written.
use Rattle.std.specs.Prelude.{◌≡◌, ◌^◌, ◌<◌, ℕ, List, length, Option, Some}
use Rattle.std.specs.List.{AllByRecursion}
use Rattle.key_codec.specs.Fault.{ok_of}
use Rattle.key_codec.specs.Hash.{hash_in}
use Rattle.key_codec.specs.Key.{IsKey}
use Rattle.voucher_chain.specs.Reading.{IsInMemory}
use Rattle.voucher_chain.specs.RvInfo.{AreNumbers}
use Rattle.fdo_msgs.specs.declared.header_payload.HeaderPayload.{HeaderPayload}
use Rattle.fdo_msgs.specs.declared.setup_payload.SetupPayload.{SetupPayload}
use Rattle.fdo_msgs.specs.Fit.{IsHash, IsSig, IsWholeHeader, Stand}
use Rattle.fdo_msgs.specs.Payloads.{header_in, header_text, setup_in, setup_text}

-- each part is of its form, and its bytes are in memory
pub record IsSetup (p : SetupPayload) : Type 0 where
  pub rv : AllByRecursion AreNumbers p.rv
  pub guid : length p.guid ≡ 16
  pub nonce : length p.nonce ≡ 16
  pub key : IsKey p.key
  pub memory : IsInMemory (setup_text p)

pub record IsHeaderPayload (p : HeaderPayload) : Type 0 where
  pub header : IsWholeHeader p.header
  pub entries : p.entries < 2 ^ 8
  pub hmac : Stand 15 (λ x. ok_of (hash_in x)) p.hmac_raw p.hmac
  pub nonce : length p.nonce ≡ 16
  pub sig : IsSig p.sig
  pub xa : length p.xa < 2 ^ 64
  pub hello_hash : IsHash p.hello_hash
  pub max_size : p.max_size < 2 ^ 16
  pub memory : IsInMemory (header_text p)

abbrev pub SetupIsReadBack : Type 0
SetupIsReadBack = (p : SetupPayload) → IsSetup p → setup_in (setup_text p) ≡ Some p

abbrev pub HeaderIsReadBack : Type 0
HeaderIsReadBack = (p : HeaderPayload) → IsHeaderPayload p → header_in (header_text p) ≡ Some p

abbrev pub OneSetup : Type 0
OneSetup = (p q : SetupPayload) → IsSetup p → IsSetup q → setup_text p ≡ setup_text q → p ≡ q

abbrev pub OneHeader : Type 0
OneHeader = (p q : HeaderPayload) → IsHeaderPayload p → IsHeaderPayload q → header_text p ≡ header_text q → p ≡ q
