-- A session that is put into the cache is started.
use Rattle.std.proofs.Common.{◌≡◌, ℕ, ◌+◌, ◌-◌, ◌≤◌, List, [], ◌∷◌, length, take, Bool, true, false, Option, Some, None, refl, sym, ap, ◌∙◌, arith}
use Rattle.std.proofs.lemmas.List.{take_all}
use Rattle.std.specs.Prelude.{◌==◌, cond}
use Rattle.std.specs.Option.{option_map_or}
use Rattle.std.specs.Cmp.Lexicographic.{pointwise, same_text}
use Rattle.std.specs.Map.{lookup_entry, remove_entry}
use Rattle.lru.specs.LruCache.{LruCache, put_entries}
use Rattle.sessions.specs.Table.{is_token, most_sessions, started}

module _ {T : Type 0} (token : List ℕ) where
  absent : (es : List (List ℕ × T)) → lookup_entry (is_token token) es ≡ None → remove_entry (is_token token) es ≡ es
  absent [] e = refl
  absent (x ∷ es) e = by (is_token token x.0) (absent es) e where
    by : (b : Bool) → (lookup_entry (is_token token) es ≡ None → remove_entry (is_token token) es ≡ es)
        → cond b (Some x) (lookup_entry (is_token token) es) ≡ None → cond b es (x ∷ remove_entry (is_token token) es) ≡ x ∷ es
    by true on h = let no = h in cc
    by false on h = ap (λ l. x ∷ l) (on h)

  some_same : (a b : List ℕ × T) → ◌≡◌ {A = Option (List ℕ × T)} (Some a) (Some b) → a ≡ b
  some_same a b e = ap value e where
    value : Option (List ℕ × T) → List ℕ × T
    value (Some x) = x
    value None = a

  present : (es : List (List ℕ × T)) (entry : List ℕ × T) → lookup_entry (is_token token) es ≡ Some entry
      → (is_token token entry.0 ≡ true) × (length (remove_entry (is_token token) es) + 1 ≡ length es)
  present [] entry e = let no = e in cc
  present (x ∷ es) entry e = by (is_token token x.0) refl (present es entry) e where
    by : (b : Bool) → is_token token x.0 ≡ b
        → (lookup_entry (is_token token) es ≡ Some entry → (is_token token entry.0 ≡ true) × (length (remove_entry (is_token token) es) + 1 ≡ length es))
        → cond b (Some x) (lookup_entry (is_token token) es) ≡ Some entry
        → (is_token token entry.0 ≡ true) × (length (cond b es (x ∷ remove_entry (is_token token) es)) + 1 ≡ length (x ∷ es))
    by true is on h = (ap (λ y. is_token token y.0) (sym (some_same x entry h)) ∙ is, omega arith)
    by false is on h = let rest = on h in (rest.0, omega (arith, rest.1))

  pub put_started : (c : LruCache (List ℕ) T) (session : T) → c.cap ≡ most_sessions → length c.entries ≤ c.cap
      → put_entries (pointwise ◌==◌) c token session ≡ started token session c.entries
  put_started c session full short = by (lookup_entry (is_token token) c.entries) refl where
    by : (o : Option (List ℕ × T)) → lookup_entry (is_token token) c.entries ≡ o
        → option_map_or (λ e. (e.0, session) ∷ remove_entry (is_token token) c.entries) o ((token, session) ∷ take (c.cap - 1) c.entries)
        ≡ (token, session) ∷ take 255 (remove_entry (is_token token) c.entries)
    by None e = ap (λ l. (token, session) ∷ l) (ap (λ n. take (n - 1) c.entries) full ∙ ap (take 255) (sym (absent c.entries e)))
    by (Some entry) e =
        let there = present c.entries entry e in
        ap (λ k. (k, session) ∷ remove_entry (is_token token) c.entries) (sym (same_text token entry.0 (sym there.0)))
        ∙ ap (λ l. (token, session) ∷ l) (sym (take_all 255 (remove_entry (is_token token) c.entries) (omega (arith, there.1, short, full))))
