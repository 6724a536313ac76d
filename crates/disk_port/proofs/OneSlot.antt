-- One slot, seen from its gate on.
use Rattle.std.proofs.Common.{◌≡◌, ◌⊎◌, inl, inr, ℕ, suc, ◌+◌, ◌^◌, ◌≤◌, ◌<◌, ◌&&◌, nat_le, List, [], ◌∷◌, ◌++◌, length, take, drop, min, true, false, None, Some, refl, ap, sym, ◌∙◌, subst, arith, append_assoc, length-append, length-drop}
use Rattle.std.proofs.lemmas.List.{take_all, drop_at, drop-append-le, take-append-le, take-append-drop, length-take-le}
use Rattle.std.proofs.lemmas.Bool.{cases_eq, cases_Bool, false≢true}
use Rattle.std.proofs.lemmas.Bool.Decides.{nat_tests}
use Rattle.byteorder.specs.Endian.{big_number, big_bytes}
use Rattle.byteorder.specs.Numbers.{big_from-append, big_number-reads_back, length-bytes_high_first}
use Rattle.disk_port.specs.Crash.{Torn}
use Rattle.disk_port.specs.Slots.{body_length, is_whole, content, slot, payload, is_shut}

-- its bytes are whole at the front of any others
pub length_front : (f r : List ℕ) → 12 ≤ length f → body_length (f ++ r) ≡ body_length f
length_front f r long =
    ap (big_number 4) (drop-append-le 8 f r (omega arith)) ∙ big_from-append 4 (drop 8 f) r (omega (arith, length-drop 8 f))

pub content_front : (f r : List ℕ) → 12 + body_length f ≤ length f → content (f ++ r) ≡ content f
content_front f r long =
    let body : take (body_length (f ++ r)) (drop 12 (f ++ r)) ≡ take (body_length f) (drop 12 f) =
    ap (λ n. take n (drop 12 (f ++ r))) (length_front f r (omega arith))
    ∙ ap (take (body_length f)) (drop-append-le 12 f r (omega arith))
    ∙ take-append-le (body_length f) (drop 12 f) r (omega (arith, length-drop 12 f)) in
    ap (λ g. (g, take (body_length (f ++ r)) (drop 12 (f ++ r)))) (big_from-append 8 f r (omega arith)) ∙ ap (λ t. (big_number 8 f, t)) body

module _ (most : ℕ) where
  pub whole_fits : (b : List ℕ) → is_whole most b ≡ true → (body_length b ≤ most) × (12 + body_length b ≤ length b)
  whole_fits b whole = fits (body_length b) (length b) whole
    where
      fits : (n l : ℕ) → (nat_le n most && nat_le (12 + n) l) ≡ true → (n ≤ most) × (12 + n ≤ l)
      fits n l whole = grind (arith, nat_tests)

  pub whole_from : (b : List ℕ) → body_length b ≤ most → 12 + body_length b ≤ length b → is_whole most b ≡ true
  whole_from b within long = from (body_length b) (length b) within long
    where
      from : (n l : ℕ) → n ≤ most → 12 + n ≤ l → (nat_le n most && nat_le (12 + n) l) ≡ true
      from n l within long = grind (arith, nat_tests)

  pub closed_gate : (g : ℕ) (b : List ℕ) → (g ≡ 1 → ⊥) → slot most (g ∷ b) ≡ None
  unfolding slot
  closed_gate g b shut = grind (arith, nat_tests)

  pub no_slot : slot most [] ≡ None
  unfolding slot
  no_slot = refl

  pub open_slot : (b : List ℕ) → is_whole most b ≡ true → slot most (1 ∷ b) ≡ Some (content b)
  unfolding slot
  open_slot b whole = rw whole refl

  pub broken_slot : (b : List ℕ) → is_whole most b ≡ false → slot most (1 ∷ b) ≡ None
  unfolding slot
  broken_slot b broken = rw broken refl

  -- it is open, with these bytes behind its gate
  pub record IsOpen (x : List ℕ) : Type 0 where
    pub behind : List ℕ
    pub is : x ≡ 1 ∷ behind
    pub whole : is_whole most behind ≡ true

  pub slot_cases : (x : List ℕ) → (slot most x ≡ None) ⊎ IsOpen x
  slot_cases [] = inl no_slot
  slot_cases (g ∷ b) = elim (cases_eq g 1) [
    | inl open_gate ↦ elim (cases_Bool (is_whole most b)) [
      | inl whole ↦ inr (record { behind = b; is = ap (λ g. g ∷ b) open_gate; whole = whole })
      | inr broken ↦ inl (subst (λ g. slot most (g ∷ b) ≡ None) (sym open_gate) (broken_slot b broken))
    ]
    | inr shut ↦ inl (closed_gate g b shut)
  ]

  pub open_is : (x : List ℕ) (is_open : IsOpen x) → slot most x ≡ Some (content is_open.behind)
  open_is x is_open = ap (slot most) is_open.is ∙ open_slot is_open.behind is_open.whole

  pub open_from : (x : List ℕ) (s : ℕ × List ℕ) → slot most x ≡ Some s → IsOpen x
  open_from x s is = elim (slot_cases x) [
    | inl none ↦ let no : None ≡ Some s = sym none ∙ is in cc
    | inr is_open ↦ is_open
  ]

  -- an open slot's gate does not stand shut
  pub open_gate : (x : List ℕ) → IsOpen x → is_shut x ≡ false
  open_gate x is_open = ap is_shut is_open.is

  -- its front
  front_is : (b : List ℕ) → 12 + body_length b ≤ length b → b ≡ take (12 + body_length b) b ++ drop (12 + body_length b) b
  front_is b long = sym (take-append-drop (12 + body_length b) b)

  front_whole : (b : List ℕ) (n : ℕ) → n ≡ 12 + body_length b → is_whole most b ≡ true → (body_length (take n b) ≡ body_length b) × (length (take n b) ≡ n)
  front_whole b n n_is whole =
      let fits = whole_fits b whole in
      let long : length (take n b) ≡ n = length-take-le n b (omega (arith, n_is, fits.1)) in
      (sym (length_front (take n b) (drop n b) (omega (arith, long, n_is))) ∙ ap body_length (take-append-drop n b), long)

  same_front : (b r : List ℕ) (n : ℕ) → n ≡ 12 + body_length b → is_whole most b ≡ true → slot most (1 ∷ (take n b ++ r)) ≡ Some (content (take n b))
  same_front b r n n_is whole =
      let fits = whole_fits b whole in
      let front = front_whole b n n_is whole in
      let same : body_length (take n b ++ r) ≡ body_length b = length_front (take n b) r (omega (arith, front.1, n_is)) ∙ front.0 in
      open_slot (take n b ++ r) (whole_from (take n b ++ r) (omega (arith, same, fits.0)) (omega (arith, same, front.1, n_is, length-append (take n b) r)))
      ∙ ap Some (content_front (take n b) r (omega (arith, front.0, front.1, n_is)))

  -- it stays open as long as its own bytes stay
  pub stays_open : (x c : List ℕ) (n : ℕ) (is_open : IsOpen x) → n ≡ 12 + body_length is_open.behind → take (suc n) c ≡ take (suc n) x → slot most c ≡ slot most x
  stays_open x c n is_open n_is same =
      let b : List ℕ = is_open.behind in
      let c_is : c ≡ 1 ∷ (take n b ++ drop (suc n) c) =
      sym (take-append-drop (suc n) c) ∙ ap (λ t. t ++ drop (suc n) c) (same ∙ ap (take (suc n)) is_open.is) in
      let x_is : x ≡ 1 ∷ (take n b ++ drop n b) = is_open.is ∙ ap (λ t. 1 ∷ t) (sym (take-append-drop n b)) in
      ap (slot most) c_is ∙ same_front b (drop (suc n) c) n n_is is_open.whole
      ∙ sym (ap (slot most) x_is ∙ same_front b (drop n b) n n_is is_open.whole)

  -- a gate that does not stand shut is torn: the slot is as it was or closed
  pub gate_torn : (x c : List ℕ) → is_shut x ≡ false → Torn 0 1 x c → (slot most c ≡ slot most x) ⊎ (slot most c ≡ None)
  gate_torn x [] shut torn = inr no_slot
  gate_torn [] (g ∷ b) shut torn = inr (alone g b torn.after)
    where
      alone : (g : ℕ) (b : List ℕ) → b ≡ [] → slot most (g ∷ b) ≡ None
      alone g b none = elim (slot_cases (g ∷ b)) [
        | inl is ↦ is
        | inr is_open ↦ absurd (omega (arith, (whole_fits is_open.behind is_open.whole).1, ap length is_open.is, ap length none))
      ]
  gate_torn (h ∷ d) (g ∷ b) shut torn = elim (cases_eq h 1) [
    | inl was_open ↦ elim (cases_eq g 1) [
      | inl is_open ↦ inl (ap (slot most) (torn_same g h b d is_open was_open torn.after))
      | inr closed ↦ inr (closed_gate g b closed)
    ]
    | inr was_closed ↦ absurd (false≢true (sym shut ∙ shut_gate h d was_closed))
  ]
    where
      torn_same : (g h : ℕ) (b d : List ℕ) → g ≡ 1 → h ≡ 1 → b ≡ d → g ∷ b ≡ h ∷ d
      torn_same g h b d is was same = cc

      shut_gate : (h : ℕ) (d : List ℕ) → (h ≡ 1 → ⊥) → is_shut (h ∷ d) ≡ true
      shut_gate h d closed = grind (arith, nat_tests)

  -- a gate that stands shut stays so whatever is torn behind it
  pub behind_torn : (n : ℕ) (x c : List ℕ) → is_shut x ≡ true → Torn 1 n x c → slot most c ≡ None
  behind_torn n x [] shut torn = no_slot
  behind_torn n [] (g ∷ b) shut torn = cc
  behind_torn n (h ∷ d) (g ∷ b) shut torn = elim (cases_eq g 1) [
    | inl is_open ↦ absurd (false≢true (ap is_shut (gate g b h d torn.before is_open) ∙ shut))
    | inr closed ↦ closed_gate g b closed
  ]
    where
      gate : (g : ℕ) (b : List ℕ) (h : ℕ) (d : List ℕ) → take (min 1 (length (h ∷ d))) (g ∷ b) ≡ take (min 1 (length (h ∷ d))) (h ∷ d) → g ≡ 1 → 1 ∷ d ≡ h ∷ d
      gate g b h d same is_open =
          let one : min 1 (length (h ∷ d)) ≡ 1 = omega arith in
          let front : g ∷ [] ≡ h ∷ [] = subst (λ n. take n (g ∷ b) ≡ take n (h ∷ d)) one same in
          cc

-- what is written behind a gate
pub payload_length : (g : ℕ) (body : List ℕ) → length (payload g body) ≡ 12 + length body
unfolding payload
payload_length g body =
    omega (arith, length-append (big_bytes 8 g) (big_bytes 4 (length body) ++ body), length-append (big_bytes 4 (length body)) body, length-bytes_high_first 8 g, length-bytes_high_first 4 (length body))

pub payload_body_length : (g : ℕ) (body : List ℕ) → length body < 2 ^ 32 → body_length (payload g body) ≡ length body
unfolding payload
payload_body_length g body short =
    ap (big_number 4) (drop_at (big_bytes 8 g) (big_bytes 4 (length body) ++ body) 8 (length-bytes_high_first 8 g)) ∙ big_number-reads_back 4 (length body) body short

pub payload_content : (g : ℕ) (body : List ℕ) → g < 2 ^ 64 → length body < 2 ^ 32 → content (payload g body) ≡ (g, body)
unfolding payload
payload_content g body small short =
    let head : List ℕ = big_bytes 8 g ++ big_bytes 4 (length body) in
    let whole : payload g body ≡ head ++ body = sym (append_assoc (big_bytes 8 g) (big_bytes 4 (length body)) body) in
    let twelve : length head ≡ 12 = omega (arith, length-append (big_bytes 8 g) (big_bytes 4 (length body)), length-bytes_high_first 8 g, length-bytes_high_first 4 (length body)) in
    let rest : drop 12 (payload g body) ≡ body = ap (drop 12) whole ∙ drop_at head body 12 twelve in
    let taken : take (body_length (payload g body)) (drop 12 (payload g body)) ≡ body =
    ap (λ n. take n (drop 12 (payload g body))) (payload_body_length g body short) ∙ ap (take (length body)) rest ∙ take_all (length body) body (omega arith) in
    ap (λ n. (n, take (body_length (payload g body)) (drop 12 (payload g body)))) (big_number-reads_back 8 g (big_bytes 4 (length body) ++ body) small) ∙ ap (λ t. (g, t)) taken

-- it stands behind an open gate
pub new_slot : (most g : ℕ) (body r : List ℕ) → g < 2 ^ 64 → length body < 2 ^ 32 → length body ≤ most → slot most (1 ∷ (payload g body ++ r)) ≡ Some (g, body)
new_slot most g body r small short within =
    let long = payload_length g body in
    let is : body_length (payload g body) ≡ length body = payload_body_length g body short in
    let same : body_length (payload g body ++ r) ≡ length body = length_front (payload g body) r (omega (arith, long)) ∙ is in
    open_slot most (payload g body ++ r) (whole_from most (payload g body ++ r) (omega (arith, same)) (omega (arith, same, long, length-append (payload g body) r)))
    ∙ ap Some (content_front (payload g body) r (omega (arith, is, long)) ∙ payload_content g body small short)

-- its gate's opening is torn: it is closed or new
pub opening_torn : (most g gate : ℕ) (body r c : List ℕ) → g < 2 ^ 64 → length body < 2 ^ 32 → length body ≤ most → Torn 0 1 (gate ∷ (payload g body ++ r)) c → (slot most c ≡ None) ⊎ (slot most c ≡ Some (g, body))
opening_torn most g gate body r [] small short within torn = inl (no_slot most)
opening_torn most g gate body r (h ∷ b) small short within torn = elim (cases_eq h 1) [
  | inl is_open ↦ inr (ap (slot most) (whole h b is_open torn.after) ∙ new_slot most g body r small short within)
  | inr closed ↦ inl (closed_gate most h b closed)
]
  where
    whole : (h : ℕ) (b : List ℕ) → h ≡ 1 → b ≡ payload g body ++ r → h ∷ b ≡ 1 ∷ (payload g body ++ r)
    whole h b is_open same = cc

pub payload_rest : (g : ℕ) (body : List ℕ) → drop 12 (payload g body) ≡ body
unfolding payload
payload_rest g body =
    let head : List ℕ = big_bytes 8 g ++ big_bytes 4 (length body) in
    ap (drop 12) (sym (append_assoc (big_bytes 8 g) (big_bytes 4 (length body)) body))
    ∙ drop_at head body 12 (omega (arith, length-append (big_bytes 8 g) (big_bytes 4 (length body)), length-bytes_high_first 8 g, length-bytes_high_first 4 (length body)))
