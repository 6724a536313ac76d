-- A map of one pair: its key is compared with none.
use Rattle.std.proofs.Common.{◌≡◌, ℕ, ◌-◌, Bool, true, false, List, [], ◌∷◌, length, Ok, Err, refl}
use Rattle.cbor_core.specs.declared.fault.CborFault.{CborFault}
use Rattle.cbor_core.specs.declared.fault.CborFault.TheVariants as fault
use Rattle.cbor_core.specs.declared.item.Item.{Item}
use Rattle.cbor_core.specs.Deterministic.{det}
use Rattle.cbor_core.specs.Reading.{Read, Fails, admitted, pair_step, row_at}

alone : (strict : Bool) (place : ℕ) (key : List ℕ) → admitted strict place [] key ≡ Ok tt
alone true place key = refl
alone false place key = refl

module _ (strict : Bool) (total : ℕ) (read : List ℕ → Read Item) where
  pub one_pair : (bytes mid rest : List ℕ) (key value : Item) → read bytes ≡ Ok (key, mid) → read mid ≡ Ok (value, rest) → row_at (pair_step strict total read) 1 [] bytes ≡ Ok ((key, value) ∷ [], rest)
  unfolding row_at pair_step
  one_pair bytes mid rest key value a b = rw (a, alone strict (total - length bytes) (det key), b) refl

  key_stops : (bytes : List ℕ) (f : CborFault) → read bytes ≡ Err f → row_at (pair_step strict total read) 1 [] bytes ≡ Err f
  unfolding row_at pair_step
  key_stops bytes f a = rw a refl

  value_stops : (bytes mid : List ℕ) (key : Item) (f : CborFault) → read bytes ≡ Ok (key, mid) → read mid ≡ Err f → row_at (pair_step strict total read) 1 [] bytes ≡ Err f
  unfolding row_at pair_step
  value_stops bytes mid key f a b = rw (a, alone strict (total - length bytes) (det key), b) refl

  pub no_key : (f : CborFault) (bytes : List ℕ) → Fails f (read bytes) → Fails f (row_at (pair_step strict total read) 1 [] bytes)
  no_key (fault.Truncated p) bytes h = key_stops bytes (fault.Truncated p) h
  no_key (fault.Malformed p) bytes h = key_stops bytes (fault.Malformed p) h
  no_key (fault.TooDeep p) bytes h = key_stops bytes (fault.TooDeep p) h
  no_key (fault.Duplicate p) bytes h = key_stops bytes (fault.Duplicate p) h
  no_key (fault.Float p) bytes h = key_stops bytes (fault.Float p) h
  no_key (fault.NotDeterministic p) bytes h = key_stops bytes (fault.NotDeterministic p) h
  no_key fault.NoMemory bytes h = tt

  pub no_value : (f : CborFault) (bytes mid : List ℕ) (key : Item) → read bytes ≡ Ok (key, mid) → Fails f (read mid) → Fails f (row_at (pair_step strict total read) 1 [] bytes)
  no_value (fault.Truncated p) bytes mid key a h = value_stops bytes mid key (fault.Truncated p) a h
  no_value (fault.Malformed p) bytes mid key a h = value_stops bytes mid key (fault.Malformed p) a h
  no_value (fault.TooDeep p) bytes mid key a h = value_stops bytes mid key (fault.TooDeep p) a h
  no_value (fault.Duplicate p) bytes mid key a h = value_stops bytes mid key (fault.Duplicate p) a h
  no_value (fault.Float p) bytes mid key a h = value_stops bytes mid key (fault.Float p) a h
  no_value (fault.NotDeterministic p) bytes mid key a h = value_stops bytes mid key (fault.NotDeterministic p) a h
  no_value fault.NoMemory bytes mid key a h = tt
