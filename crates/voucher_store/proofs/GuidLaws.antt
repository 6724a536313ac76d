-- No GUID stands twice.
use Rattle.std.proofs.Common.{◌≡◌, ◌⊎◌, inl, inr, ℕ, List, [], ◌∷◌, ◌++◌, Bool, true, false, ◌||◌, ◌&&◌, if◌then◌else◌, Option, Some, None, refl, sym, ap, subst, ◌∙◌, append_assoc}
use Rattle.std.specs.Prelude.{not, is_some}
use Rattle.std.specs.List.{AllByRecursion}
use Rattle.std.specs.Str.{bytes_eq}
use Rattle.std.proofs.lemmas.Bool.{cases_Bool, false≢true}
use Rattle.std.proofs.lemmas.List.{append-nil}
use Rattle.std.proofs.lemmas.Slice.Eq.{bytes_eq-Decides}
use Rattle.voucher_map.specs.Map.{candidate_in, guid_of, names, is_guid, entry_of, is_candidate, is_kept}
use Rattle.voucher_map.specs.declared.kept.Kept.{Kept}
use Rattle.voucher_map.specs.declared.kept.Kept.TheVariants as kept
use Rattle.voucher_store.specs.Snapshot.{is_new_candidate, is_new}
use Rattle.voucher_store.specs.Writing.{IsSoundEntry, AreSound}

-- ---- truth values

or_false : (a b : Bool) → (a || b) ≡ false → (a ≡ false) × (b ≡ false)
or_false true b is = absurd (false≢true (sym is))
or_false false b is = (refl, is)

false_or : (a b : Bool) → a ≡ false → b ≡ false → (a || b) ≡ false
false_or true b one two = one
false_or false b one two = two

or_assoc : (a b c : Bool) → (a || (b || c)) ≡ ((a || b) || c)
or_assoc true b c = refl
or_assoc false b c = refl

pub left_or : (a b : Bool) → a ≡ true → (a || b) ≡ true
left_or true b is = refl
left_or false b is = absurd (false≢true is)

pub right_or : (a b : Bool) → b ≡ true → (a || b) ≡ true
right_or true b is = refl
right_or false b is = is

and_true : (a b : Bool) → (a && b) ≡ true → (a ≡ true) × (b ≡ true)
and_true true b is = (refl, is)
and_true false b is = absurd (false≢true is)

true_and : (a b : Bool) → a ≡ true → b ≡ true → (a && b) ≡ true
true_and true b one two = two
true_and false b one two = absurd (false≢true one)

not_true : (b : Bool) → not b ≡ true → b ≡ false
not_true true is = absurd (false≢true is)
not_true false is = refl

true_not : (b : Bool) → b ≡ false → not b ≡ true
true_not true is = absurd (false≢true (sym is))
true_not false is = refl

-- ---- an entry's GUIDs

abbrev pub has : List ℕ → Kept → Bool
has g e = names g e || is_guid g (candidate_in e)

abbrev pub EachGuid : (List ℕ → Type 0) → Kept → Type 0
EachGuid P (kept.Held base None) = P (guid_of base)
EachGuid P (kept.Held base (Some candidate)) = P (guid_of base) × P (guid_of candidate)
EachGuid P (kept.Sent voucher) = P (guid_of voucher)

abbrev pub IsSingle : Kept → Type 0
IsSingle (kept.Held base None) = Unit {0}
IsSingle (kept.Held base (Some candidate)) = bytes_eq (guid_of base) (guid_of candidate) ≡ false
IsSingle (kept.Sent voucher) = Unit {0}

pub each_map : (P Q : List ℕ → Type 0) → ((g : List ℕ) → P g → Q g) → (e : Kept) → EachGuid P e → EachGuid Q e
each_map P Q to (kept.Held base None) h = to (guid_of base) h
each_map P Q to (kept.Held base (Some candidate)) h = (to (guid_of base) h.0, to (guid_of candidate) h.1)
each_map P Q to (kept.Sent voucher) h = to (guid_of voucher) h

pub each_both : (P Q : List ℕ → Type 0) (e : Kept) → EachGuid P e → EachGuid Q e → EachGuid (λ g. P g × Q g) e
each_both P Q (kept.Held base None) p q = (p, q)
each_both P Q (kept.Held base (Some candidate)) p q = ((p.0, q.0), (p.1, q.1))
each_both P Q (kept.Sent voucher) p q = (p, q)

same_bytes : (x : List ℕ) → bytes_eq x x ≡ true
same_bytes x = (bytes_eq-Decides x x).1 refl

pub each_has : (e : Kept) → EachGuid (λ g. has g e ≡ true) e
each_has (kept.Held base None) = left_or (bytes_eq (guid_of base) (guid_of base)) false (same_bytes (guid_of base))
each_has (kept.Held base (Some candidate)) = (
  left_or (bytes_eq (guid_of base) (guid_of base)) (bytes_eq (guid_of candidate) (guid_of base)) (same_bytes (guid_of base)),
  right_or (bytes_eq (guid_of base) (guid_of candidate)) (bytes_eq (guid_of candidate) (guid_of candidate)) (same_bytes (guid_of candidate)),
)
each_has (kept.Sent voucher) = left_or (bytes_eq (guid_of voucher) (guid_of voucher)) false (same_bytes (guid_of voucher))

one_of : (P : List ℕ → Type 0) (a b : Bool) (x y h : List ℕ) → (a || b) ≡ true → (a ≡ true → x ≡ h) → (b ≡ true → y ≡ h) → P x → P y → P h
one_of P true b x y h is first second p q = subst P (first refl) p
one_of P false b x y h is first second p q = subst P (second is) q

pub has_one : (P : List ℕ → Type 0) (e : Kept) (h : List ℕ) → EachGuid P e → has h e ≡ true → P h
has_one P (kept.Held base None) h each is =
    one_of P (bytes_eq (guid_of base) h) false (guid_of base) (guid_of base) h is (λ t. (bytes_eq-Decides (guid_of base) h).0 t) (λ t. absurd (false≢true t)) each each
has_one P (kept.Held base (Some candidate)) h each is =
    one_of P (bytes_eq (guid_of base) h) (bytes_eq (guid_of candidate) h) (guid_of base) (guid_of candidate) h is (λ t. (bytes_eq-Decides (guid_of base) h).0 t) (λ t. (bytes_eq-Decides (guid_of candidate) h).0 t) each.0 each.1
has_one P (kept.Sent voucher) h each is =
    one_of P (bytes_eq (guid_of voucher) h) false (guid_of voucher) (guid_of voucher) h is (λ t. (bytes_eq-Decides (guid_of voucher) h).0 t) (λ t. absurd (false≢true t)) each each

-- ---- those of a list

kept_by : (e : Kept) (n c k : Bool) (o : Option Kept) → (is_some (if n then Some e else o) || (c || k)) ≡ ((n || c) || (is_some o || k))
kept_by e true c k o = refl
kept_by e false true k None = refl
kept_by e false true k (Some x) = refl
kept_by e false false k o = refl

pub kept_cons : (g : List ℕ) (e : Kept) (es : List Kept) → is_kept g (e ∷ es) ≡ (has g e || is_kept g es)
kept_cons g e es = kept_by e (names g e) (is_guid g (candidate_in e)) (is_candidate g es) (entry_of g es)

pub kept_append : (g : List ℕ) (xs ys : List Kept) → is_kept g (xs ++ ys) ≡ (is_kept g xs || is_kept g ys)
kept_append g [] ys = refl
kept_append g (x ∷ xs) ys =
    kept_cons g x (xs ++ ys) ∙ ap (λ t. has g x || t) (kept_append g xs ys) ∙ or_assoc (has g x) (is_kept g xs) (is_kept g ys) ∙ ap (λ t. t || is_kept g ys) (sym (kept_cons g x xs))

pub missed_both : (g : List ℕ) (xs ys : List Kept) → is_kept g (xs ++ ys) ≡ false → (is_kept g xs ≡ false) × (is_kept g ys ≡ false)
missed_both g xs ys is = or_false (is_kept g xs) (is_kept g ys) (sym (kept_append g xs ys) ∙ is)

pub both_missed : (g : List ℕ) (xs ys : List Kept) → is_kept g xs ≡ false → is_kept g ys ≡ false → is_kept g (xs ++ ys) ≡ false
both_missed g xs ys one two = kept_append g xs ys ∙ false_or (is_kept g xs) (is_kept g ys) one two

pub missed_first : (g : List ℕ) (e : Kept) (es : List Kept) → is_kept g (e ∷ es) ≡ false → (has g e ≡ false) × (is_kept g es ≡ false)
missed_first g e es is = or_false (has g e) (is_kept g es) (sym (kept_cons g e es) ∙ is)

pub missed_only : (g : List ℕ) (e : Kept) → has g e ≡ false → is_kept g (e ∷ []) ≡ false
missed_only g e is = kept_cons g e [] ∙ false_or (has g e) false is refl

-- ---- a new entry

pub record IsNew (X : List Kept) (e : Kept) : Type 0 where
  pub missed : EachGuid (λ g. is_kept g X ≡ false) e
  pub single : IsSingle e

pub new_is : (X : List Kept) (e : Kept) → is_new X e ≡ true → IsNew X e
new_is X (kept.Held base None) is = record { missed = not_true (is_kept (guid_of base) X) (and_true (not (is_kept (guid_of base) X)) true is).0; single = tt }
new_is X (kept.Held base (Some candidate)) is =
    let p = and_true (not (is_kept (guid_of base) X)) (is_new_candidate X base (Some candidate)) is in
    let q = and_true (not (is_kept (guid_of candidate) X)) (not (bytes_eq (guid_of base) (guid_of candidate))) p.1 in
    record { missed = (not_true (is_kept (guid_of base) X) p.0, not_true (is_kept (guid_of candidate) X) q.0); single = not_true (bytes_eq (guid_of base) (guid_of candidate)) q.1 }
new_is X (kept.Sent voucher) is = record { missed = not_true (is_kept (guid_of voucher) X) (and_true (not (is_kept (guid_of voucher) X)) true is).0; single = tt }

pub is_new_by : (X : List Kept) (e : Kept) → EachGuid (λ g. is_kept g X ≡ false) e → IsSingle e → is_new X e ≡ true
is_new_by X (kept.Held base None) missed single = true_and (not (is_kept (guid_of base) X)) true (true_not (is_kept (guid_of base) X) missed) refl
is_new_by X (kept.Held base (Some candidate)) missed single =
    true_and (not (is_kept (guid_of base) X)) (is_new_candidate X base (Some candidate)) (true_not (is_kept (guid_of base) X) missed.0)
    (true_and (not (is_kept (guid_of candidate) X)) (not (bytes_eq (guid_of base) (guid_of candidate))) (true_not (is_kept (guid_of candidate) X) missed.1) (true_not (bytes_eq (guid_of base) (guid_of candidate)) single))
is_new_by X (kept.Sent voucher) missed single = true_and (not (is_kept (guid_of voucher) X)) true (true_not (is_kept (guid_of voucher) X) missed) refl

-- ---- one in the place of another

pub record Split (b f : List Kept) (o : Kept) (k : List Kept) : Type 0 where
  pub front : AreSound b f
  pub sound : IsSoundEntry o
  pub new : is_new (b ++ f) o ≡ true
  pub back : AreSound ((b ++ f) ++ o ∷ []) k

pub split : (b f : List Kept) (o : Kept) (k : List Kept) → AreSound b (f ++ o ∷ k) → Split b f o k
split b [] o k s = record {
  front = tt;
  sound = s.0;
  new = subst (λ l. is_new l o ≡ true) (sym (append-nil b)) s.1;
  back = subst (λ l. AreSound (l ++ o ∷ []) k) (sym (append-nil b)) s.2;
}
split b (x ∷ f) o k s =
    let p = split (b ++ x ∷ []) f o k s.2 in
    let same : (b ++ x ∷ []) ++ f ≡ b ++ x ∷ f = append_assoc b (x ∷ []) f in
    record {
      front = (s.0, s.1, p.front);
      sound = p.sound;
      new = subst (λ l. is_new l o ≡ true) same p.new;
      back = subst (λ l. AreSound (l ++ o ∷ []) k) same p.back;
    }

pub join : (b f : List Kept) (o : Kept) (k : List Kept) → Split b f o k → AreSound b (f ++ o ∷ k)
join b [] o k p = (p.sound, subst (λ l. is_new l o ≡ true) (append-nil b) p.new, subst (λ l. AreSound (l ++ o ∷ []) k) (append-nil b) p.back)
join b (x ∷ f) o k p =
    let same : b ++ x ∷ f ≡ (b ++ x ∷ []) ++ f = sym (append_assoc b (x ∷ []) f) in (
      p.front.0,
      p.front.1,
      join (b ++ x ∷ []) f o k (record {
        front = p.front.2;
        sound = p.sound;
        new = subst (λ l. is_new l o ≡ true) same p.new;
        back = subst (λ l. AreSound (l ++ o ∷ []) k) same p.back;
      }),
    )

module _ (new : Kept) where
  swap : (X Y k : List Kept) → ((g : List ℕ) → is_kept g X ≡ false → has g new ≡ false → is_kept g Y ≡ false) → AreSound X k → AllByRecursion (EachGuid (λ g. has g new ≡ false)) k → AreSound Y k
  swap X Y [] link s away = tt
  swap X Y (e ∷ k) link s away =
      let is = new_is X e s.1 in (
        s.0,
        is_new_by Y e (each_map (λ g. (is_kept g X ≡ false) × (has g new ≡ false)) (λ g. is_kept g Y ≡ false) (λ g h. link g h.0 h.1) e (each_both (λ g. is_kept g X ≡ false) (λ g. has g new ≡ false) e is.missed away.0)) is.single,
        swap (X ++ e ∷ []) (Y ++ e ∷ []) k (λ g x h. let m = missed_both g X (e ∷ []) x in both_missed g Y (e ∷ []) (link g m.0 h) m.1) s.2 away.1,
      )

  -- a GUID of the old one, or one of none
  module _ (o : Kept) (W : List ℕ → Type 0) (fresh : EachGuid (λ g. (has g o ≡ true) ⊎ W g) new) where
    apart : (h : List ℕ) (e : Kept) → has h o ≡ false → has h e ≡ true → (W h → has h e ≡ false) → has h new ≡ false
    apart h e other own over = elim (cases_Bool (has h new)) [
      | inl is ↦ (elim (has_one (λ g. (has g o ≡ true) ⊎ W g) new h fresh is) [
        | inl was ↦ absurd (false≢true (sym other ∙ was))
        | inr w ↦ absurd (false≢true (sym (over w) ∙ own))
      ])
      | inr not ↦ not
    ]

    away : (X k : List Kept) → ((g : List ℕ) → W g → is_kept g k ≡ false) → ((g : List ℕ) → is_kept g X ≡ false → has g o ≡ false) → AreSound X k → AllByRecursion (EachGuid (λ g. has g new ≡ false)) k
    away X [] over other s = tt
    away X (e ∷ k) over other s = (
      each_map (λ g. (is_kept g X ≡ false) × (has g e ≡ true)) (λ g. has g new ≡ false) (λ g h. apart g e (other g h.0) h.1 (λ w. (missed_first g e k (over g w)).0)) e
          (each_both (λ g. is_kept g X ≡ false) (λ g. has g e ≡ true) e (new_is X e s.1).missed (each_has e)),
      away (X ++ e ∷ []) k (λ g w. (missed_first g e k (over g w)).1) (λ g x. other g (missed_both g X (e ∷ []) x).0) s.2,
    )

pub replace : (f : List Kept) (o : Kept) (k : List Kept) (new : Kept) → AreSound [] (f ++ o ∷ k) → IsSoundEntry new → IsSingle new → EachGuid (λ g. (has g o ≡ true) ⊎ (is_kept g (f ++ o ∷ k) ≡ false)) new → AreSound [] (f ++ new ∷ k)
replace f o k new s sound single fresh =
    let p = split [] f o k s in
    let W : List ℕ → Type 0 = λ g. is_kept g (f ++ o ∷ k) ≡ false in
    let front : (g : List ℕ) → (has g o ≡ true) ⊎ W g → is_kept g f ≡ false =
    λ g h. elim h [ inl own ↦ has_one (λ g. is_kept g f ≡ false) o g (new_is f o p.new).missed own | inr w ↦ (missed_both g f (o ∷ k) w).0 ] in
    join [] f new k (record {
      front = p.front;
      sound = sound;
      new = is_new_by f new (each_map (λ g. (has g o ≡ true) ⊎ W g) (λ g. is_kept g f ≡ false) front new fresh) single;
      back = swap new (f ++ o ∷ []) (f ++ new ∷ []) k
          (λ g x h. both_missed g f (new ∷ []) (missed_both g f (o ∷ []) x).0 (missed_only g new h)) p.back
          (away new o W fresh (f ++ o ∷ []) k (λ g w. (missed_first g o k (missed_both g f (o ∷ k) w).1).1) (λ g x. (missed_first g o [] (missed_both g f (o ∷ []) x).1).0) p.back);
    })

pub more : (es : List Kept) (new : Kept) → AreSound [] es → IsSoundEntry new → is_new es new ≡ true → AreSound [] (es ++ new ∷ [])
more es new s sound is = join [] es new [] (record { front = s; sound = sound; new = is; back = tt })
