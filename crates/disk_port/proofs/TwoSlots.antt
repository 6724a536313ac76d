-- A file of two slots under writes that are cut short.
use Rattle.std.proofs.Common.{◌≡◌, ◌⊎◌, inl, inr, ℕ, suc, ◌+◌, ◌-◌, ◌^◌, ◌≤◌, ◌<◌, List, [], ◌∷◌, ◌++◌, length, take, drop, get_or, min, Bool, true, false, Option, None, Some, Result, Ok, refl, ap, sym, ◌∙◌, subst, arith, length-drop}
use Rattle.std.proofs.lemmas.List.{take-take, drop-take, drop-drop, drop_more}
use Rattle.std.proofs.lemmas.Bool.{cases_lt}
use Rattle.fdo_ports.specs.declared.failed.Failed.{Failed}
use Rattle.disk_port.specs.Story.{Story, put, seen, with_events}
use Rattle.disk_port.specs.Told.{Told, IfTold}
use Rattle.disk_port.specs.Crash.{Torn}
use Rattle.disk_port.specs.Gated.{gate_closed, gate_filled, gated, Gates, MayLeave}
use Rattle.disk_port.specs.Slots.{AreApart, body_length, slot, payload, base, slot_at, stands, other, is_shut, next_side, next_generation, next_change, generation_after, changed, change_to, change_after, body_of, IsPayload, IsBeforeOrAfter, IsChanged, Changes}
use Rattle.disk_port.specs.declared.slots.Slots.{Slots}
use Rattle.disk_port.specs.declared.side.Side.{Side}
use Rattle.disk_port.specs.declared.side.Side.TheVariants.{First, Second}
use Rattle.disk_port.specs.declared.next_change.NextChange.{NextChange}
use Rattle.disk_port.proofs.Stepping.{steps_map}
use Rattle.disk_port.proofs.Written.{put_torn, torn_same, drop_put, length_put}
use Rattle.disk_port.proofs.OneSlot.{IsOpen, open_from, whole_fits, stays_open, gate_torn, behind_torn, opening_torn, new_slot, open_gate, payload_length, payload_rest}
use Rattle.disk_port.proofs.Picks.{first_open, same_counts, new_counts}

-- seen from a place before it
pub torn_drop : (base k n : ℕ) (d c : List ℕ) → Torn (base + k) n d c → Torn k n (drop base d) (drop base c)
torn_drop base k n d c torn = record {
  before = elim (cases_lt base (length d)) [ inl inside ↦ within inside | inr past ↦ outside past ];
  after = drop-drop (k + n) base c ∙ ap (λ m. drop m c) (omega arith) ∙ torn.after ∙ sym (drop-drop (k + n) base d ∙ ap (λ m. drop m d) (omega arith));
  no_shorter = omega (arith, torn.no_shorter, length-drop base d, length-drop base c);
  no_longer = omega (arith, torn.no_longer, length-drop base d, length-drop base c);
}
  where
    outside : length d ≤ base → take (min k (length (drop base d))) (drop base c) ≡ take (min k (length (drop base d))) (drop base d)
    outside past =
        let none : min k (length (drop base d)) ≡ 0 = omega (arith, length-drop base d) in
        rw none refl

    within : base < length d → take (min k (length (drop base d))) (drop base c) ≡ take (min k (length (drop base d))) (drop base d)
    within inside =
        let m : ℕ = min k (length (drop base d)) in
        let is : min (base + k) (length d) ≡ base + m = omega (arith, length-drop base d) in
        let same : take (base + m) c ≡ take (base + m) d = subst (λ n. take n c ≡ take n d) is torn.before in
        sym (drop-take base m c) ∙ ap (drop base) same ∙ drop-take base m d

pub torn_gate : (base n : ℕ) (d c : List ℕ) → Torn base n d c → Torn 0 n (drop base d) (drop base c)
torn_gate base n d c torn =
    let is : base ≡ base + 0 = omega arith in
    torn_drop base 0 n d c (subst (λ m. Torn m n d c) is torn)

-- what stands behind it stays
pub torn_behind : (m at n : ℕ) (d c : List ℕ) → at + n ≤ m → Torn at n d c → drop m c ≡ drop m d
torn_behind m at n d c past torn =
    let is : at + n + (m - (at + n)) ≡ m = omega arith in
    sym (ap (λ k. drop k c) is) ∙ sym (drop-drop (m - (at + n)) (at + n) c) ∙ ap (drop (m - (at + n))) torn.after ∙ drop-drop (m - (at + n)) (at + n) d ∙ ap (λ k. drop k d) is

-- what stands before it stays
pub torn_before : (k at n : ℕ) (d c : List ℕ) → k ≤ at → k ≤ length d → Torn at n d c → take k c ≡ take k d
torn_before k at n d c within inside torn =
    sym (take-take k (min at (length d)) c (omega arith)) ∙ ap (take k) torn.before ∙ take-take k (min at (length d)) d (omega arith)

-- the gate that is closed stands shut
pub closed_shut : (at : ℕ) (shut : Bool) (d : List ℕ) → shut ≡ is_shut (drop at d) → is_shut (drop at (gate_closed at shut d)) ≡ true
closed_shut at true d is = sym is
closed_shut at false d is = ap is_shut (drop_put at (0 ∷ []) d)

pub closed_torn : (at : ℕ) (shut : Bool) (d : List ℕ) → Torn at 1 d (gate_closed at shut d)
closed_torn at true d = torn_same at 1 d
closed_torn at false d = put_torn at (0 ∷ []) d

-- what is filled in stands behind the gate
pub filled_is : (at : ℕ) (bytes d : List ℕ) → drop at (put (at + 1) bytes d) ≡ get_or (put (at + 1) bytes d) at 0 ∷ (bytes ++ drop (at + 1 + length bytes) d)
filled_is at bytes d =
    drop_more (put (at + 1) bytes d) at 0 (omega (arith, length_put (at + 1) bytes d)) ∙ ap (λ t. get_or (put (at + 1) bytes d) at 0 ∷ t) (drop_put (at + 1) bytes d)

-- and then behind the open one
pub opened_is : (at : ℕ) (bytes d : List ℕ) → drop at (put at (1 ∷ []) (put (at + 1) bytes d)) ≡ 1 ∷ (bytes ++ drop (at + 1 + length bytes) d)
opened_is at bytes d = drop_put at (1 ∷ []) (put (at + 1) bytes d) ∙ ap (λ t. 1 ∷ t) (drop_put (at + 1) bytes d)

module _ (slots : Slots) (apart : AreApart slots) where
  -- writes within one slot keep the other
  pub other_stays : (side : Side) (at n : ℕ) (d c : List ℕ) → base slots side ≤ at → at + n ≤ base slots side + (13 + slots.most) → (side ≡ Second → (x : ℕ × List ℕ) × (slot_at slots First d ≡ Some x)) → Torn at n d c → slot_at slots (other side) c ≡ slot_at slots (other side) d
  other_stays First at n d c from to first torn = ap (slot slots.most) (torn_behind slots.second at n d c (omega (arith, apart, to)) torn)
  other_stays Second at n d c from to first torn =
      let x = first refl in
      let is_open : IsOpen slots.most d = open_from slots.most d x.0 x.1 in
      let fits = whole_fits slots.most is_open.behind is_open.whole in
      let k : ℕ = 12 + body_length is_open.behind in
      stays_open slots.most d c k is_open refl (torn_before (suc k) at n d c (omega (arith, fits.0, apart, from)) (omega (arith, fits.1, ap length is_open.is)) torn)

  pub gate_stays : (side : Side) (at n : ℕ) (d c : List ℕ) → base slots side ≤ at → at + n ≤ base slots side + (13 + slots.most) → (side ≡ Second → (x : ℕ × List ℕ) × (slot_at slots First d ≡ Some x)) → Torn at n d c → is_shut (drop (base slots (other side)) c) ≡ is_shut (drop (base slots (other side)) d)
  gate_stays First at n d c from to first torn = ap is_shut (torn_behind slots.second at n d c (omega (arith, apart, to)) torn)
  gate_stays Second at n d c from to first torn =
      let x = first refl in
      let after = other_stays Second at n d c from to first torn ∙ x.1 in
      open_gate slots.most c (open_from slots.most c x.0 after) ∙ sym (open_gate slots.most d (open_from slots.most d x.0 x.1))

  -- a change of one slot, call by call
  module _ (d : List ℕ) (change : NextChange) (body : List ℕ) (is : change ≡ next_change slots d) (small : change.generation < 2 ^ 64) (short : length body < 2 ^ 32) (within : length body ≤ slots.most) where
    side_is : change.side ≡ next_side (stands slots d)
    side_is = ap (λ (n : NextChange). n.side) is

    shut_is : change.shut ≡ is_shut (drop (base slots change.side) d)
    shut_is = ap (λ (n : NextChange). n.shut) is ∙ ap (λ side. is_shut (drop (base slots side) d)) (sym side_is)

    first : change.side ≡ Second → (x : ℕ × List ℕ) × (slot_at slots First d ≡ Some x)
    first second = first_open (slot_at slots First d) (slot_at slots Second d) (sym second ∙ side_is)

    abbrev Keeps : List ℕ → Type 0
    Keeps c = slot_at slots (other change.side) c ≡ slot_at slots (other change.side) d

    keeps_none : Keeps d
    keeps_none = refl

    first_of : (m : List ℕ) → Keeps m → change.side ≡ Second → (x : ℕ × List ℕ) × (slot_at slots First m ≡ Some x)
    first_of m keeps second =
        let x = first second in
        (x.0, subst (λ side. slot_at slots (other side) m ≡ slot_at slots (other side) d) second keeps ∙ x.1)

    keeps_then : (at n : ℕ) (m c : List ℕ) → base slots change.side ≤ at → at + n ≤ base slots change.side + (13 + slots.most) → Keeps m → Torn at n m c → Keeps c
    keeps_then at n m c from to keeps torn = other_stays change.side at n m c from to (first_of m keeps) torn ∙ keeps

    keeps_closed : Keeps (gate_closed (base slots change.side) change.shut d)
    keeps_closed = keeps_then (base slots change.side) 1 d (gate_closed (base slots change.side) change.shut d) (omega arith) (omega arith) refl (closed_torn (base slots change.side) change.shut d)

    keeps_filling : (c : List ℕ) → Torn (base slots change.side + 1) (length (payload change.generation body)) (gate_closed (base slots change.side) change.shut d) c → Keeps c
    keeps_filling c torn =
        keeps_then (base slots change.side + 1) (length (payload change.generation body)) (gate_closed (base slots change.side) change.shut d) c (omega arith) (omega (arith, payload_length change.generation body, within)) keeps_closed torn

    keeps_filled : Keeps (gate_filled (base slots change.side) change.shut (payload change.generation body) d)
    keeps_filled = keeps_filling (gate_filled (base slots change.side) change.shut (payload change.generation body) d) (put_torn (base slots change.side + 1) (payload change.generation body) (gate_closed (base slots change.side) change.shut d))

    keeps_opening : (c : List ℕ) → Torn (base slots change.side) 1 (gate_filled (base slots change.side) change.shut (payload change.generation body) d) c → Keeps c
    keeps_opening c torn =
        keeps_then (base slots change.side) 1 (gate_filled (base slots change.side) change.shut (payload change.generation body) d) c (omega arith) (omega arith) keeps_filled torn

    same : (c : List ℕ) → Keeps c → (slot_at slots change.side c ≡ slot_at slots change.side d) ⊎ (slot_at slots change.side c ≡ None) → IsBeforeOrAfter slots change body d c
    same c keeps own = inl (by_side change.side side_is keeps own)
      where
        by_side : (side : Side) → side ≡ next_side (stands slots d) → slot_at slots (other side) c ≡ slot_at slots (other side) d → (slot_at slots side c ≡ slot_at slots side d) ⊎ (slot_at slots side c ≡ None) → stands slots c ≡ stands slots d
        by_side First side keeps own = same_counts First (slot_at slots First d) (slot_at slots Second d) (slot_at slots First c) (slot_at slots Second c) side keeps own
        by_side Second side keeps own = same_counts Second (slot_at slots First d) (slot_at slots Second d) (slot_at slots First c) (slot_at slots Second c) side keeps own

    new : (c : List ℕ) → Keeps c → slot_at slots change.side c ≡ Some (change.generation, body) → stands slots c ≡ Some (changed change body)
    new c keeps own = by_side change.side side_is (ap (λ (n : NextChange). n.generation) is) keeps own
      where
        by_side : (side : Side) → side ≡ next_side (stands slots d) → change.generation ≡ next_generation (stands slots d) → slot_at slots (other side) c ≡ slot_at slots (other side) d → slot_at slots side c ≡ Some (change.generation, body) → stands slots c ≡ Some (record { side = side; generation = change.generation; body = body })
        by_side First side next keeps own = new_counts First (slot_at slots First d) (slot_at slots Second d) (slot_at slots First c) (slot_at slots Second c) change.generation body side next small keeps own
        by_side Second side next keeps own = new_counts Second (slot_at slots First d) (slot_at slots Second d) (slot_at slots First c) (slot_at slots Second c) change.generation body side next small keeps own

    -- what a crash in it may leave
    pub change_leaves : (c : List ℕ) → MayLeave (base slots change.side) change.shut (payload change.generation body) d c → IsBeforeOrAfter slots change body d c
    change_leaves c (inl torn) =
        same c (keeps_then (base slots change.side) 1 d c (omega arith) (omega arith) keeps_none torn.1)
        (gate_torn slots.most (drop (base slots change.side) d) (drop (base slots change.side) c) (sym shut_is ∙ torn.0) (torn_gate (base slots change.side) 1 d c torn.1))
    change_leaves c (inr (inl torn)) =
        same c (keeps_filling c torn)
        (inr (behind_torn slots.most (length (payload change.generation body)) (drop (base slots change.side) (gate_closed (base slots change.side) change.shut d)) (drop (base slots change.side) c)
        (closed_shut (base slots change.side) change.shut d shut_is)
        (torn_drop (base slots change.side) 1 (length (payload change.generation body)) (gate_closed (base slots change.side) change.shut d) c torn)))
    change_leaves c (inr (inr torn)) =
        elim (opening_torn slots.most change.generation (get_or (gate_filled (base slots change.side) change.shut (payload change.generation body) d) (base slots change.side) 0) body
        (drop (base slots change.side + 1 + length (payload change.generation body)) (gate_closed (base slots change.side) change.shut d)) (drop (base slots change.side) c) small short within
        (subst (λ x. Torn 0 1 x (drop (base slots change.side) c)) (filled_is (base slots change.side) (payload change.generation body) (gate_closed (base slots change.side) change.shut d))
        (torn_gate (base slots change.side) 1 (gate_filled (base slots change.side) change.shut (payload change.generation body) d) c torn))) [
          | inl none ↦ same c (keeps_opening c torn) (inr none)
          | inr is_new ↦ inr (new c (keeps_opening c torn) is_new)
        ]

    gate_then : (at n : ℕ) (m c : List ℕ) → base slots change.side ≤ at → at + n ≤ base slots change.side + (13 + slots.most) → Keeps m → Torn at n m c → is_shut (drop (base slots (other change.side)) c) ≡ is_shut (drop (base slots (other change.side)) m)
    gate_then at n m c from to keeps torn = gate_stays change.side at n m c from to (first_of m keeps) torn

    -- the file after it
    abbrev after : List ℕ
    after = put (base slots change.side) (1 ∷ []) (gate_filled (base slots change.side) change.shut (payload change.generation body) d)

    after_torn : Torn (base slots change.side) 1 (gate_filled (base slots change.side) change.shut (payload change.generation body) d) after
    after_torn = put_torn (base slots change.side) (1 ∷ []) (gate_filled (base slots change.side) change.shut (payload change.generation body) d)

    after_own : slot_at slots change.side after ≡ Some (change.generation, body)
    after_own =
        ap (slot slots.most) (opened_is (base slots change.side) (payload change.generation body) (gate_closed (base slots change.side) change.shut d))
        ∙ new_slot slots.most change.generation body (drop (base slots change.side + 1 + length (payload change.generation body)) (gate_closed (base slots change.side) change.shut d)) small short within

    after_stands : stands slots after ≡ Some (changed change body)
    after_stands = new after (keeps_opening after after_torn) after_own

    after_gate : is_shut (drop (base slots (other change.side)) after) ≡ change.other_shut
    after_gate =
        gate_then (base slots change.side) 1 (gate_filled (base slots change.side) change.shut (payload change.generation body) d) after (omega arith) (omega arith) keeps_filled after_torn
        ∙ gate_then (base slots change.side + 1) (length (payload change.generation body)) (gate_closed (base slots change.side) change.shut d) (gate_filled (base slots change.side) change.shut (payload change.generation body) d)
        (omega arith) (omega (arith, payload_length change.generation body, within)) keeps_closed (put_torn (base slots change.side + 1) (payload change.generation body) (gate_closed (base slots change.side) change.shut d))
        ∙ gate_then (base slots change.side) 1 d (gate_closed (base slots change.side) change.shut d) (omega arith) (omega arith) keeps_none (closed_torn (base slots change.side) change.shut d)
        ∙ ap (λ side. is_shut (drop (base slots (other side)) d)) side_is ∙ sym (ap (λ (n : NextChange). n.other_shut) is)

    after_open : (side : Side) → side ≡ change.side → is_shut (drop (base slots (other (other side))) after) ≡ false
    after_open First is = open_is_not_shut First is
      where
        open_is_not_shut : (side : Side) → side ≡ change.side → is_shut (drop (base slots side) after) ≡ false
        open_is_not_shut side is = ap (λ side. is_shut (drop (base slots side) after)) is ∙ ap is_shut (opened_is (base slots change.side) (payload change.generation body) (gate_closed (base slots change.side) change.shut d))
    after_open Second is = open_is_not_shut Second is
      where
        open_is_not_shut : (side : Side) → side ≡ change.side → is_shut (drop (base slots side) after) ≡ false
        open_is_not_shut side is = ap (λ side. is_shut (drop (base slots side) after)) is ∙ ap is_shut (opened_is (base slots change.side) (payload change.generation body) (gate_closed (base slots change.side) change.shut d))

    pub after_is : IsChanged slots change body (change_after change) after
    after_is = record {
      now_stands = after_stands;
      now_next = ap (λ o. change_to slots (next_side o) (next_generation o) after) after_stands
          ∙ ap (λ b. record { side = other change.side; generation = generation_after change.generation; shut = b; other_shut = is_shut (drop (base slots (other (other change.side))) after) }) after_gate
          ∙ ap (λ b. record { side = other change.side; generation = generation_after change.generation; shut = change.other_shut; other_shut = b }) (after_open change.side refl);
    }

seen_gated : (s : Story) (at : ℕ) (shut : Bool) (bytes : List ℕ) → seen (with_events (gated at shut bytes) s) ≡ put at (1 ∷ []) (gate_filled at shut bytes (seen s))
seen_gated s at true bytes = refl
seen_gated s at false bytes = refl

-- as the disk tells it
module _ (slots : Slots) (change : NextChange) (bytes : List ℕ) (apart : AreApart slots) (payload_is : IsPayload change.generation bytes) (small : change.generation < 2 ^ 64) (short : slots.most < 2 ^ 32) (within : length bytes ≤ 12 + slots.most) where
  length_is : length bytes ≡ 12 + length (body_of bytes)
  length_is = ap length payload_is ∙ payload_length change.generation (body_of bytes)

  pub change_story : (r : Result (Unit {0}) Failed) (s s' : Story) → change ≡ next_change slots (seen s) → Gates (base slots change.side) change.shut bytes r s s' → Changes slots change (body_of bytes) r s s'
  change_story r s s' is gates =
      let same : Gates (base slots change.side) change.shut (payload change.generation (body_of bytes)) r s s' = subst (λ b. Gates (base slots change.side) change.shut b r s s') payload_is gates in
      steps_map (MayLeave (base slots change.side) change.shut (payload change.generation (body_of bytes)) (seen s)) (IsBeforeOrAfter slots change (body_of bytes) (seen s)) (gated (base slots change.side) change.shut (payload change.generation (body_of bytes))) r s s'
      (change_leaves slots apart (seen s) change (body_of bytes) is small (omega (arith, length_is, short, within)) (omega (arith, length_is, within))) same

  pub change_told : (o o' : Option Story) (r : Result (Unit {0}) Failed) → IfTold (λ s. change ≡ next_change slots (seen s)) o → Told (Gates (base slots change.side) change.shut bytes r) o o' → Told (Changes slots change (body_of bytes) r) o o'
  change_told None o' r is told = told
  change_told (Some s) o' r is told = (told.0, told.1, change_story r s told.0 is told.2)

  pub change_done : (o o' : Option Story) (u : Unit {0}) → IfTold (λ s. change ≡ next_change slots (seen s)) o → Told (Gates {T = Unit {0}} {E = Failed} (base slots change.side) change.shut bytes (Ok u)) o o' → IfTold (λ s. IsChanged slots change (body_of bytes) (change_after change) (seen s)) o'
  change_done None o' u is told = subst (IfTold (λ s. IsChanged slots change (body_of bytes) (change_after change) (seen s))) (sym told) tt
  change_done (Some s) o' u is told =
      let story : told.0 ≡ with_events (gated (base slots change.side) change.shut (payload change.generation (body_of bytes))) s = told.2.done ∙ ap (λ b. with_events (gated (base slots change.side) change.shut b) s) payload_is in
      let seen_is = ap seen story ∙ seen_gated s (base slots change.side) change.shut (payload change.generation (body_of bytes)) in
      subst (IfTold (λ s. IsChanged slots change (body_of bytes) (change_after change) (seen s))) (sym told.1)
      (subst (IsChanged slots change (body_of bytes) (change_after change)) (sym seen_is)
      (after_is slots apart (seen s) change (body_of bytes) is small (omega (arith, length_is, short, within)) (omega (arith, length_is, within))))

-- there is some of it
pub payload_some : (generation : ℕ) (bytes : List ℕ) → IsPayload generation bytes → 0 < length bytes
payload_some generation bytes is = omega (arith, ap length is, payload_length generation (body_of bytes))

-- its body stands behind its head
pub payload_body : (generation : ℕ) (body : List ℕ) → body_of (payload generation body) ≡ body
payload_body generation body = payload_rest generation body

pub payload_whole : (generation : ℕ) (body bytes : List ℕ) → bytes ≡ payload generation body → IsPayload generation bytes
payload_whole generation body bytes is = is ∙ ap (payload generation) (sym (payload_body generation body) ∙ ap body_of (sym is))

pub payload_long : (generation : ℕ) (body bytes : List ℕ) → bytes ≡ payload generation body → length bytes ≡ 12 + length body
payload_long generation body bytes is = ap length is ∙ payload_length generation body
