-- The sessions of a server, each with its token, the one used last first.
use Rattle.std.specs.Prelude.{ℕ, List, ◌∷◌, take, Bool, ◌==◌, Option}
use Rattle.std.specs.Cmp.Lexicographic.{pointwise}
use Rattle.std.specs.Map.{lookup, remove_entry, set_value}
use Rattle.lru.specs.LruCache.{promoted}

-- at most so many
abbrev pub most_sessions : ℕ
most_sessions = 256

abbrev pub is_token : List ℕ → List ℕ → Bool
is_token token other = pointwise ◌==◌ token other

module _ {T : Type 0} where
  -- the session of a token
  abbrev pub session_of : List ℕ → List (List ℕ × T) → Option T
  session_of token sessions = lookup (is_token token) sessions

  -- all but that of a token
  abbrev pub without : List ℕ → List (List ℕ × T) → List (List ℕ × T)
  without token sessions = remove_entry (is_token token) sessions

  -- a session that starts takes the place of one with its token; of more than 256 the one used longest ago is dropped
  abbrev pub started : List ℕ → T → List (List ℕ × T) → List (List ℕ × T)
  started token session sessions = take most_sessions ((token, session) ∷ without token sessions)

  -- the session of a token, if there is one, is used
  abbrev pub used : List ℕ → List (List ℕ × T) → List (List ℕ × T)
  used token sessions = promoted (is_token token) sessions

  -- it is used, and another stands in its place
  abbrev pub changed : List ℕ → T → List (List ℕ × T) → List (List ℕ × T)
  changed token session sessions = set_value (is_token token) (used token sessions) session
