-- A change of a map that can be kept makes another one.
use Rattle.std.proofs.Common.{◌≡◌, ◌⊎◌, inl, inr, ℕ, ◌≤◌, List, [], ◌∷◌, length, Bool, true, false, ◌||◌, ◌&&◌, nat_le, if◌then◌else◌, Option, Some, None, refl, sym, ap, subst, ◌∙◌, arith}
use Rattle.std.specs.Prelude.{not, is_some}
use Rattle.std.specs.Str.{bytes_eq}
use Rattle.std.proofs.lemmas.Bool.{cases_Bool, false≢true, leb-true}
use Rattle.std.proofs.lemmas.List.{length-append}
use Rattle.std.proofs.lemmas.Slice.Eq.{bytes_eq-Decides}
use Rattle.voucher_chain.specs.declared.voucher.Voucher.{Voucher}
use Rattle.voucher_map.specs.Map.{candidate_in, guid_of, names, is_guid, entry_of, is_candidate, is_kept, set_entry, imported, held_in, candidate_set_in, candidate_set, promoted_in, promoted, sent}
use Rattle.voucher_map.specs.Laws.{DifferInOne}
use Rattle.voucher_map.specs.declared.kept.Kept.{Kept}
use Rattle.voucher_map.specs.declared.kept.Kept.TheVariants as kept
use Rattle.voucher_map.proofs.EntryLaws.{changes_one, adds_last}
use Rattle.voucher_store.specs.Records.{is_taken, is_others, if_free, set_by, promoted_by, sent_by, changed}
use Rattle.voucher_store.specs.Writing.{IsSound, IsSoundEntry, AreSound, IsMap, IsSpelt}
use Rattle.voucher_store.specs.declared.change.Change.{Change}
use Rattle.voucher_store.specs.declared.change.Change.TheVariants as change
use Rattle.voucher_store.proofs.GuidLaws.{has, EachGuid, IsSingle, each_has, missed_both, missed_first, new_is, is_new_by, split, replace, more, left_or, right_or}

-- an entry that is named, among the others
pub record Named (g : List ℕ) (old : Kept) (es : List Kept) : Type 0 where
  pub named : names g old ≡ true
  pub sound : IsSoundEntry old
  pub single : IsSingle old
  pub inside : (h : List ℕ) → is_kept h es ≡ false → has h old ≡ false

named_is : (g : List ℕ) (old new : Kept) (es after : List Kept) → DifferInOne g old new es after → AreSound [] es → Named g old es
named_is g old new es after d s =
    let p = split [] d.front old d.back (subst (AreSound []) d.was s) in
    record {
      named = d.named;
      sound = p.sound;
      single = (new_is d.front old p.new).single;
      inside = λ h is. (missed_first h old d.back (missed_both h d.front (old ∷ d.back) (subst (λ l. is_kept h l ≡ false) d.was is)).1).0;
    }

pub named : (g : List ℕ) (old : Kept) (es : List Kept) → entry_of g es ≡ Some old → AreSound [] es → Named g old es
named g old es at s = named_is g old old es (set_entry g old es) (changes_one g old old es at).0 s

abbrev Fresh : Kept → List Kept → Kept → Type 0
Fresh old es new = EachGuid (λ h. (has h old ≡ true) ⊎ (is_kept h es ≡ false)) new

replaced : (g : List ℕ) (old new : Kept) (es after : List Kept) → DifferInOne g old new es after → IsMap es → IsSoundEntry new → IsSingle new → Fresh old es new → IsMap after
replaced g old new es after d is sound single fresh = record {
  sound = subst (AreSound []) (sym d.is) (replace d.front old d.back new (subst (AreSound []) d.was is.sound) sound single (subst (λ l. EachGuid (λ h. (has h old ≡ true) ⊎ (is_kept h l ≡ false)) new) d.was fresh));
  few = omega (arith, is.few, ap length d.was, ap length d.is, length-append d.front (old ∷ d.back), length-append d.front (new ∷ d.back));
}

pub set_map : (g : List ℕ) (old new : Kept) (es : List Kept) → entry_of g es ≡ Some old → IsMap es → IsSoundEntry new → IsSingle new → Fresh old es new → IsMap (set_entry g new es)
set_map g old new es at is sound single fresh = replaced g old new es (set_entry g new es) (changes_one g old new es at).0 is sound single fresh

-- ---- a GUID that isn't taken

free_is : (g : List ℕ) (old : Kept) (es : List Kept) → is_taken g (candidate_in old) es ≡ false → (has g old ≡ true) ⊎ (is_kept g es ≡ false)
free_is g old es free = elim (cases_Bool (is_kept g es)) [
  | inl kept ↦ inl (right_or (names g old) (is_guid g (candidate_in old)) (own (is_guid g (candidate_in old)) (sym (ap (λ t. t && not (is_guid g (candidate_in old))) kept) ∙ free)))
  | inr missed ↦ inr missed
]
  where
    own : (b : Bool) → (true && not b) ≡ false → b ≡ true
    own true is = refl
    own false is = absurd (false≢true (sym is))

others_is : (g : List ℕ) (old : Kept) (es : List Kept) → is_others g old es ≡ false → (has g old ≡ true) ⊎ (is_kept g es ≡ false)
others_is g old es free = elim (cases_Bool (names g old)) [
  | inl is ↦ inl (left_or (names g old) (is_guid g (candidate_in old)) is)
  | inr not_named ↦ free_is g old es (sym (ap (λ t. not t && is_taken g (candidate_in old) es) not_named) ∙ free)
]

if_free_is : (taken : Bool) (es after : List Kept) → if_free taken es ≡ Some after → (taken ≡ false) × (after ≡ es)
if_free_is true es after is = absurd (cc is)
if_free_is false es after is = (refl, sym (cc is))

if_few_is : (taken few : Bool) (es after : List Kept) → (if taken then None else if few then Some es else None) ≡ Some after → (taken ≡ false) × (few ≡ true) × (after ≡ es)
if_few_is true few es after is = absurd (cc is)
if_few_is false true es after is = (refl, refl, sym (cc is))
if_few_is false false es after is = absurd (cc is)

-- ---- each change

-- the GUIDs of a base and of its new candidate differ
candidate_single : (g : List ℕ) (b : Voucher) (own : Option Voucher) (c : Voucher) (es : List Kept) → Named g (kept.Held b own) es → (has (guid_of c) (kept.Held b own) ≡ true) ⊎ (is_kept (guid_of c) es ≡ false)
    → is_taken (guid_of c) own es ≡ false → bytes_eq (guid_of b) (guid_of c) ≡ false
candidate_single g b own c es n fresh free = elim (cases_Bool (bytes_eq (guid_of b) (guid_of c))) [
  | inl same ↦ absurd (false≢true (sym (clash own n (free_is (guid_of c) (kept.Held b own) es free) same (kept_or (is_kept (guid_of c) es) (is_guid (guid_of c) own) free)) ∙ same))
  | inr differ ↦ differ
]
  where
    kept_or : (k o : Bool) → (k && not o) ≡ false → (k ≡ false) ⊎ (o ≡ true)
    kept_or true true is = inr refl
    kept_or true false is = absurd (false≢true (sym is))
    kept_or false o is = inl refl

    clash : (own : Option Voucher) → Named g (kept.Held b own) es → (has (guid_of c) (kept.Held b own) ≡ true) ⊎ (is_kept (guid_of c) es ≡ false) → bytes_eq (guid_of b) (guid_of c) ≡ true
        → (is_kept (guid_of c) es ≡ false) ⊎ (is_guid (guid_of c) own ≡ true) → bytes_eq (guid_of b) (guid_of c) ≡ false
    clash own n f same (inl missed) = absurd (false≢true (sym (n.inside (guid_of c) missed) ∙ left_or (bytes_eq (guid_of b) (guid_of c)) (is_guid (guid_of c) own) same))
    clash None n f same (inr is) = absurd (false≢true is)
    clash (Some o) n f same (inr is) =
        let one : guid_of b ≡ guid_of c = (bytes_eq-Decides (guid_of b) (guid_of c)).0 same in
        let two : guid_of o ≡ guid_of c = (bytes_eq-Decides (guid_of o) (guid_of c)).0 is in
        absurd (false≢true (sym n.single ∙ (bytes_eq-Decides (guid_of b) (guid_of o)).1 (one ∙ sym two)))

import_map : (v : Voucher) (es after : List Kept) → IsMap es → IsSound v → changed (change.Import v) es ≡ Some after → IsMap after
unfolding changed
import_map v es after is sound says =
    let p = if_few_is (is_candidate (guid_of v) es) (nat_le (length (imported v es)) 4096) (imported v es) after says in
    subst IsMap (sym p.2) (by p.0 (leb-true (length (imported v es)) 4096 p.1) (entry_of (guid_of v) es) refl)
  where
    by : is_candidate (guid_of v) es ≡ false → length (imported v es) ≤ 4096 → (o : Option Kept) → entry_of (guid_of v) es ≡ o → IsMap (imported v es)
    by free few None at =
        let missed : is_kept (guid_of v) es ≡ false = ap (λ o. is_some o || is_candidate (guid_of v) es) at ∙ free in
        record {
          sound = subst (AreSound []) (sym (adds_last (guid_of v) (kept.Held v None) es at).0) (more es (kept.Held v None) is.sound (sound, tt) (is_new_by es (kept.Held v None) missed tt));
          few = few;
        }
    by free few (Some old) at =
        let d = (changes_one (guid_of v) old (kept.Held v None) es at).1 in
        replaced (guid_of v) old (kept.Held v None) es (imported v es) d is (sound, tt) tt (inl (left_or (names (guid_of v) old) (is_guid (guid_of v) (candidate_in old)) d.named))

candidate_map : (g : List ℕ) (c : Voucher) (es after : List Kept) → IsMap es → IsSound c → changed (change.Candidate g c) es ≡ Some after → IsMap after
unfolding changed
candidate_map g c es after is sound says = by (entry_of g es) refl says
  where
    by : (o : Option Kept) → entry_of g es ≡ o → set_by g c es (held_in (entry_of g es)) ≡ Some after → IsMap after
    by None at says = absurd (cc (ap (λ o. set_by g c es (held_in o)) at, says))
    by (Some (kept.Sent v)) at says = absurd (cc (ap (λ o. set_by g c es (held_in o)) at, says))
    by (Some (kept.Held b own)) at says =
        let free = if_free_is (is_taken (guid_of c) own es) (candidate_set g c es) after (sym (ap (λ o. set_by g c es (held_in o)) at) ∙ says) in
        let n = named g (kept.Held b own) es at is.sound in
        let fresh = free_is (guid_of c) (kept.Held b own) es free.0 in
        subst IsMap (sym (free.1 ∙ ap (λ o. candidate_set_in g c es (held_in o)) at))
        (set_map g (kept.Held b own) (kept.Held b (Some c)) es at is (n.sound.0, sound) (candidate_single g b own c es n fresh free.0)
        (inl (left_or (bytes_eq (guid_of b) (guid_of b)) (is_guid (guid_of b) own) ((bytes_eq-Decides (guid_of b) (guid_of b)).1 refl)), fresh))

promotion_map : (g : List ℕ) (es after : List Kept) → IsMap es → changed (change.Promotion g) es ≡ Some after → IsMap after
unfolding changed
promotion_map g es after is says = by (entry_of g es) refl says
  where
    by : (o : Option Kept) → entry_of g es ≡ o → promoted_by g es (held_in (entry_of g es)) ≡ Some after → IsMap after
    by None at says = absurd (cc (ap (λ o. promoted_by g es (held_in o)) at, says))
    by (Some (kept.Sent v)) at says = absurd (cc (ap (λ o. promoted_by g es (held_in o)) at, says))
    by (Some (kept.Held b None)) at says = absurd (cc (ap (λ o. promoted_by g es (held_in o)) at, says))
    by (Some (kept.Held b (Some c))) at says =
        let n = named g (kept.Held b (Some c)) es at is.sound in
        let same : promoted g es ≡ after = cc (ap (λ o. promoted_by g es (held_in o)) at, says) in
        subst IsMap (sym (ap (λ o. promoted_in g es (held_in o)) at) ∙ same)
        (set_map g (kept.Held b (Some c)) (kept.Held c None) es at is (n.sound.1, tt) tt (inl (each_has (kept.Held b (Some c))).1))

export_map : (g : List ℕ) (v : Voucher) (es after : List Kept) → IsMap es → IsSound v → changed (change.Export g v) es ≡ Some after → IsMap after
unfolding changed
export_map g v es after is sound says = by (entry_of g es) refl says
  where
    by : (o : Option Kept) → entry_of g es ≡ o → sent_by g v es (entry_of g es) ≡ Some after → IsMap after
    by None at says = absurd (cc (ap (sent_by g v es) at, says))
    by (Some e) at says =
        let free = if_free_is (is_others (guid_of v) e es) (sent g v es) after (sym (ap (sent_by g v es) at) ∙ says) in
        subst IsMap (sym free.1) (set_map g e (kept.Sent v) es at is sound tt (others_is (guid_of v) e es free.0))

pub changed_map : (c : Change) (es after : List Kept) → IsMap es → IsSpelt c → changed c es ≡ Some after → IsMap after
changed_map (change.Import v) es after is spelt says = import_map v es after is spelt says
changed_map (change.Candidate g c) es after is spelt says = candidate_map g c es after is spelt says
changed_map (change.Promotion g) es after is spelt says = promotion_map g es after is says
changed_map (change.Export g v) es after is spelt says = export_map g v es after is spelt says
