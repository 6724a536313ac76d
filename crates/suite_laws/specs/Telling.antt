-- What a telling suite has been asked, by its record of calls.
use Rattle.std.specs.Prelude.{◌-◌, List, length, map, take}
use Rattle.suite_port.specs.Asked.{Ask}
use Rattle.suite_laws.specs.declared.telling_suite.Call.{Call}
use Rattle.suite_laws.specs.declared.telling_suite.Call.TheVariants as call

abbrev pub ask_of : Call → Ask
ask_of (call.Verified key alg text sig) = Ask.Verified key.items alg text.items sig.items
ask_of (call.Loaded private) = Ask.Loaded private.items
ask_of (call.Signed key text) = Ask.Signed key.items text.items
ask_of (call.Began name draw) = Ask.Began name.items draw.items
ask_of (call.Seconded name draw xa) = Ask.Seconded name.items draw.items xa.items
ask_of (call.Finished name private xb) = Ask.Finished name.items private.items xb.items
ask_of (call.Sealed alg key iv aad plain) = Ask.Sealed alg key.items iv.items aad.items plain.items
ask_of (call.Opened alg key iv aad sealed) = Ask.Opened alg key.items iv.items aad.items sealed.items
ask_of (call.LeafRead leaf) = Ask.LeafRead leaf.items
ask_of (call.Issued key) = Ask.Issued key.items

unfoldable pub asks_of : List Call → List Ask
asks_of calls = map ask_of calls

unfoldable pub without_last : List Ask → List Ask
without_last asks = take (length asks - 1) asks
