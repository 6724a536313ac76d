-- What is asked of a suite where memory runs out.
use Rattle.std.proofs.Common.{◌≡◌, inl, List, length, Option, Result, Ok, Err, refl}
use Rattle.key_codec.specs.declared.key.PublicKey.{PublicKey}
use Rattle.port_base.specs.Told.{grown}
use Rattle.suite_port.specs.Asked.{Ask}
use Rattle.voucher_chain.specs.Chain.{AsksUpTo, Verifies, checkings}
use Rattle.voucher_chain.specs.declared.entry.Entry.{Entry}
use Rattle.voucher_chain.specs.declared.fault.ChainFault.{ChainFault}
use Rattle.voucher_chain.specs.declared.fault.ChainFault.TheVariants as fault
use Rattle.voucher_chain.specs.declared.voucher.Voucher.{Voucher}
use Rattle.voucher_tool.specs.Longer.{AsksFile}

-- behind a chain that holds
pub asked_all : (before after : Option (List Ask)) (key : PublicKey) (es : List Entry) → after ≡ grown before (checkings (length es) key es) → AsksUpTo before after key es fault.NoMemory
asked_all before after key es all = (length es, all)

-- before the bytes are read
pub asks_nothing : (verifies : Verifies) (before : Option (List Ask)) (next : PublicKey) (read : Result Voucher ChainFault) → AsksFile verifies before before next read (Err fault.NoMemory)
asks_nothing verifies before next (Ok v) = inl refl
asks_nothing verifies before next (Err f) = refl
