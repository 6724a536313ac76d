-- The walk along a voucher's entries, row by row.
use Rattle.std.proofs.Common.{◌≡◌, ℕ, List, Bool, false, nat_lt, if◌then◌else◌, Result, Ok, Err, refl, sym, subst}
use Rattle.fdo_msgs.specs.declared.cause.Cause.{Cause}
use Rattle.fdo_msgs.specs.declared.next.Next.{Next}
use Rattle.fdo_msgs.specs.declared.packet.Packet.{Packet}
use Rattle.fdo_rules.specs.Checks.{fits_peer}
use Rattle.fdo_rules.specs.DeviceTo2.{HelloSent, Walk, Walked, WalkRow, asks, by_entry, by_header, by_owner, entry_asked, entry_checks, header_checks, ov_next_entry_row, owner_checks, prove_ov_hdr_row, walk_from, walk_on, walks, with_token}
use Rattle.fdo_rules.specs.Row.{Row}
use Rattle.fdo_rules.specs.Suite.{Suite}
use Rattle.fdo_rules.specs.declared.parts.OvNextEntry.{OvNextEntry}
use Rattle.fdo_rules.specs.declared.parts.ProveOvHdr.{ProveOvHdr}
use Rattle.fdo_rules.specs.declared.unfit.Unfit.{Unfit}
use Rattle.to2_device.specs.Lent.{Lent}
use Rattle.to2_device.specs.Steps.{LeavesAt, Refuses, Steps}
use Rattle.to2_device.specs.Told.{Tells}
use Rattle.to2_device.proofs.Stepping.{at_once, check_fails}

module _ (signed : List ℕ → List ℕ → List ℕ → Type 0) (suite : Suite) (packet : Packet) where
  -- memory runs out before anything is asked
  pub nothing_asked : (row : WalkRow) (s t : Lent) → t ≡ s → LeavesAt signed row s t
  nothing_asked row s t same = subst (λ (u : Lent). LeavesAt signed row s u) (sym same) (at_once signed row s)

  module _ {T I : Type 0} (view : T → Walked) where
    -- after the last entry the device proves itself
    pub proves_at_end : (w : Walk) (s t : Lent) (r : Next T I) → nat_lt w.index w.shown.payload.entries ≡ false → Steps signed view (by_owner suite w packet (owner_checks suite w)) s r t → Steps signed view (walks suite w packet) s r t
    proves_at_end w s t r last h =
        subst (λ (b : Bool). Steps signed view (if b then Row.Ends (asks w packet (fits_peer w.shown.payload.max_size (entry_asked w))) else by_owner suite w packet (owner_checks suite w)) s r t) (sym last) h

    -- ---- TO2.ProveOVHdr

    pub header_walks : (s : HelloSent) (shown : ProveOvHdr) (w : Walk) (before between after : Lent) (r : Next T I) → header_checks suite s packet ≡ Ok shown → w ≡ walk_from (with_token s.self packet) shown → between ≡ before →
        Steps signed view (walks suite w packet) between r after → Steps signed view (prove_ov_hdr_row suite s packet) before r after
    unfolding prove_ov_hdr_row
    header_walks s shown w before between after r told is same h =
        let from : Steps signed view (walks suite w packet) before r after = subst (λ (u : Lent). Steps signed view (walks suite w packet) u r after) same h in
        let walked : Steps signed view (walks suite (walk_from (with_token s.self packet) shown) packet) before r after = subst (λ (x : Walk). Steps signed view (walks suite x packet) before r after) is from in
        subst (λ (x : Result ProveOvHdr Cause). Steps signed view (by_header suite s packet x) before r after) (sym told) walked

    pub header_fails : (s : HelloSent) (why : Unfit) (idle : I) (before after : Lent) (r : Next T I) → after ≡ before → Tells (header_checks suite s packet) (Err why) → Refuses why packet idle r → Steps signed view (prove_ov_hdr_row suite s packet) before r after
    unfolding prove_ov_hdr_row
    header_fails s why idle before after r same told given =
        check_fails signed view (by_header suite s packet) packet (λ e. refl) (header_checks suite s packet) why idle before after r same told given

    -- ---- TO2.OVNextEntry

    pub entry_walks : (v : Walk) (next : OvNextEntry) (w : Walk) (before between after : Lent) (r : Next T I) → entry_checks suite v packet ≡ Ok next → w ≡ walk_on (with_token v.self packet) v next.entry → between ≡ before →
        Steps signed view (walks suite w packet) between r after → Steps signed view (ov_next_entry_row suite v packet) before r after
    unfolding ov_next_entry_row
    entry_walks v next w before between after r told is same h =
        let from : Steps signed view (walks suite w packet) before r after = subst (λ (u : Lent). Steps signed view (walks suite w packet) u r after) same h in
        let walked : Steps signed view (walks suite (walk_on (with_token v.self packet) v next.entry) packet) before r after = subst (λ (x : Walk). Steps signed view (walks suite x packet) before r after) is from in
        subst (λ (x : Result OvNextEntry Cause). Steps signed view (by_entry suite v packet x) before r after) (sym told) walked

    pub entry_fails : (v : Walk) (why : Unfit) (idle : I) (before after : Lent) (r : Next T I) → after ≡ before → Tells (entry_checks suite v packet) (Err why) → Refuses why packet idle r → Steps signed view (ov_next_entry_row suite v packet) before r after
    unfolding ov_next_entry_row
    entry_fails v why idle before after r same told given =
        check_fails signed view (by_entry suite v packet) packet (λ e. refl) (entry_checks suite v packet) why idle before after r same told given
