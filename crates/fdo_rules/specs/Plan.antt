-- Where a role looks for the rendezvous server, by the rendezvous information (FIDO Device Onboard 1.1, section 3.7).
use Rattle.std.specs.Prelude.{ℕ, ◌==◌, List, [], ◌∷◌, ◌++◌, length, Bool, true, false, ◌||◌, ◌&&◌, not, nat_le, if◌then◌else◌, flat_map, Option, Some, None, option_and_then, unwrap_or}
use Rattle.cbor_core.specs.Spots.{bytes_in, text_in}
use Rattle.cbor_core.specs.Whole.{whole}
use Rattle.cbor_core.specs.declared.item.Item.{Item, out-Item}
use Rattle.fdo_ports.specs.Host.{is_host_name}
use Rattle.voucher_chain.specs.declared.rv_info.RvInstr.{RvInstr}
use Rattle.fdo_msgs.specs.Value.{u16_in, u32_in}

-- ---- variables

abbrev pub dev_only : ℕ
dev_only = 0

abbrev pub owner_only : ℕ
owner_only = 1

abbrev pub ip_address : ℕ
ip_address = 2

abbrev pub dev_port : ℕ
dev_port = 3

abbrev pub owner_port : ℕ
owner_port = 4

abbrev pub dns : ℕ
dns = 5

abbrev pub protocol : ℕ
protocol = 12

abbrev pub delay_sec : ℕ
delay_sec = 13

abbrev pub bypass : ℕ
bypass = 14

-- ---- values

-- the item that an instruction's bytes hold, to their end
abbrev pub value_item : RvInstr → Option Item
value_item i = option_and_then whole i.value

-- the first instruction of a variable whose value is of its form
abbrev pub first_of : {A : Type 0} → (Item → Option A) → ℕ → List RvInstr → Option A
first_of form variable [] = None
first_of {A} form variable (i ∷ is) = or_next (if i.variable == variable then option_and_then form (value_item i) else None) (first_of form variable is) where
  or_next : Option A → Option A → Option A
  or_next None next = next
  or_next (Some value) next = Some value

-- one that says all by being there
abbrev pub stands : ℕ → List RvInstr → Bool
stands variable [] = false
stands variable (i ∷ is) = i.variable == variable || stands variable is

abbrev pub address_of : List ℕ → Option (List ℕ)
address_of bytes = if length bytes == 4 || length bytes == 16 then Some bytes else None

abbrev pub address_in : Item → Option (List ℕ)
address_in x = option_and_then address_of (bytes_in (out-Item x))

abbrev pub name_of : List ℕ → Option (List ℕ)
name_of text = if is_host_name text then Some text else None

abbrev pub name_in : Item → Option (List ℕ)
name_in x = option_and_then name_of (text_in (out-Item x))

-- ---- attempts

pub data Role : Type 0 where
  Device : Role
  Owner : Role

-- bytes of an address, 4 or 16, or a name
pub data Place : Type 0 where
  Address : List ℕ → Place
  Name : List ℕ → Place

pub record Attempt : Type 0 where
  pub place : Place
  pub port : ℕ
  pub delay : ℕ
  pub bypass : Bool

-- a directive for the other role is skipped, and an owner skips one that leaves the rendezvous server out
abbrev pub is_for : Role → List RvInstr → Bool
is_for Role.Device is = not (stands owner_only is)
is_for Role.Owner is = not (stands dev_only is || stands bypass is)

-- no protocol, or one of REST (0) and HTTP (1)
abbrev pub is_spoken : Option ℕ → Bool
is_spoken None = true
is_spoken (Some p) = nat_le p 1

abbrev pub port_variable : Role → ℕ
port_variable Role.Device = dev_port
port_variable Role.Owner = owner_port

abbrev pub leaves_out : Role → List RvInstr → Bool
leaves_out Role.Device is = stands bypass is
leaves_out Role.Owner is = false

abbrev pub attempt_at : Role → List RvInstr → Place → Attempt
attempt_at role is place =
    record { place = place; port = unwrap_or (first_of u16_in (port_variable role) is) 80; delay = unwrap_or (first_of u32_in delay_sec is) 0; bypass = leaves_out role is }

abbrev pub at_place : {A : Type 0} → (A → Place) → Role → List RvInstr → Option A → List Attempt
at_place made role is None = []
at_place made role is (Some value) = attempt_at role is (made value) ∷ []

-- at the address, and then under the name
abbrev pub attempts_of : Role → List RvInstr → List Attempt
attempts_of role is = at_place Place.Address role is (first_of address_in ip_address is) ++ at_place Place.Name role is (first_of name_in dns is)

abbrev pub attempts_in : Role → List RvInstr → List Attempt
attempts_in role is = if is_for role is && is_spoken (first_of u32_in protocol is) then attempts_of role is else []

-- those of all directives, in order
unfoldable pub plan : Role → List (List RvInstr) → List Attempt
plan role directives = flat_map (attempts_in role) directives
