-- The payload of to1d is read as it was written.
use Rattle.std.specs.Prelude.{◌≡◌, ℕ, List, Some}
use Rattle.std.specs.List.{AllByRecursion}
use Rattle.cbor_core.specs.Norm.{IsFitWithin}
use Rattle.hash_hmac.specs.declared.hash.Hash.{Hash}
use Rattle.voucher_chain.specs.Reading.{IsInMemory}
use Rattle.fdo_msgs.specs.declared.addr.AddrEntry.{AddrEntry}
use Rattle.fdo_msgs.specs.Addr.{item_of_addrs}
use Rattle.fdo_msgs.specs.Fit.{IsHash, IsPort}
use Rattle.fdo_msgs.specs.To1d.{redirect_in, redirect_text}

-- ports and protocols have 16 bits, names are UTF-8, the hash is of its form, and the bytes are in memory
pub record IsRedirect (addrs : List AddrEntry) (hash : Hash) : Type 0 where
  pub ports : AllByRecursion IsPort addrs
  pub fit : IsFitWithin 15 (item_of_addrs addrs)
  pub hashed : IsHash hash
  pub memory : IsInMemory (redirect_text addrs hash)

abbrev pub RedirectIsReadBack : Type 0
RedirectIsReadBack = (addrs : List AddrEntry) (hash : Hash) → IsRedirect addrs hash → redirect_in (redirect_text addrs hash) ≡ Some (addrs, hash)

abbrev pub OneRedirect : Type 0
OneRedirect = (addrs addrs' : List AddrEntry) (hash hash' : Hash) → IsRedirect addrs hash → IsRedirect addrs' hash' →
    redirect_text addrs hash ≡ redirect_text addrs' hash' → (addrs ≡ addrs') × (hash ≡ hash')
