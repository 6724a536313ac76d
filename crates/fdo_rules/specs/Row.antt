-- What a role does with one message: what it asks of the outside, in order, and how it goes on with each answer.
use Rattle.std.specs.Prelude.{◌≡◌, ◌⊎◌, ℕ, ◌+◌, List, Option, Some, None, Result, Ok}
use Rattle.fdo_ports.specs.declared.failed.Failed.{Failed}

-- a row that keeps a content C durably and ends with a result R
pub data Row (C R : Type 0) : Type 0 where
  -- it ends
  Ends : R → Row C R
  -- 16 bytes are drawn
  Draws : (Result (List ℕ) Failed → Row C R) → Row C R
  -- the clock is read, in seconds
  Reads : (Result ℕ Failed → Row C R) → Row C R
  -- a text is signed under a key
  Signs : List ℕ → List ℕ → (Result (List ℕ) Failed → Row C R) → Row C R
  -- a certificate is issued for a device's key
  Issues : List ℕ → (Result (List ℕ) Failed → Row C R) → Row C R
  -- what the disk stands for becomes a content
  Stores : C → (Result (Unit {0}) Failed → Row C R) → Row C R

-- how the outside may answer, from a state of it to the next
module _ {S C : Type 0} (draws : S → Result (List ℕ) Failed → S → Type 0) (reads : S → Result ℕ Failed → S → Type 0) (signs : S → List ℕ → List ℕ → Result (List ℕ) Failed → S → Type 0) (issues : S → List ℕ → Result (List ℕ) Failed → S → Type 0) (stores : S → C → Result (Unit {0}) Failed → S → Type 0) where
  -- a row comes to a result, and the outside to a state
  abbrev pub Comes : {R : Type 0} → Row C R → S → R → S → Type 0
  Comes (Row.Ends r) s result t = (result ≡ r) × (t ≡ s)
  Comes (Row.Draws next) s result t = (answer : Result (List ℕ) Failed) × (u : S) × draws s answer u × Comes (next answer) u result t
  Comes (Row.Reads next) s result t = (answer : Result ℕ Failed) × (u : S) × reads s answer u × Comes (next answer) u result t
  Comes (Row.Signs key text next) s result t = (answer : Result (List ℕ) Failed) × (u : S) × signs s key text answer u × Comes (next answer) u result t
  Comes (Row.Issues key next) s result t = (answer : Result (List ℕ) Failed) × (u : S) × issues s key answer u × Comes (next answer) u result t
  Comes (Row.Stores content next) s result t = (answer : Result (Unit {0}) Failed) × (u : S) × stores s content answer u × Comes (next answer) u result t

  -- memory runs out on the way: before all of it, or after some of what it asks, each once and in order
  abbrev pub Leaves : {R : Type 0} → Row C R → S → S → Type 0
  Leaves (Row.Ends r) s t = t ≡ s
  Leaves (Row.Draws next) s t = (t ≡ s) ⊎ ((answer : Result (List ℕ) Failed) × (u : S) × draws s answer u × Leaves (next answer) u t)
  Leaves (Row.Reads next) s t = (t ≡ s) ⊎ ((answer : Result ℕ Failed) × (u : S) × reads s answer u × Leaves (next answer) u t)
  Leaves (Row.Signs key text next) s t = (t ≡ s) ⊎ ((answer : Result (List ℕ) Failed) × (u : S) × signs s key text answer u × Leaves (next answer) u t)
  Leaves (Row.Issues key next) s t = (t ≡ s) ⊎ ((answer : Result (List ℕ) Failed) × (u : S) × issues s key answer u × Leaves (next answer) u t)
  Leaves (Row.Stores content next) s t = t ≡ s

  -- a row comes to its write, after which nothing of it is done: the content is kept or left out
  abbrev pub Stops : {R : Type 0} → Row C R → S → Option C → S → Type 0
  Stops (Row.Ends r) s kept t = ⊥
  Stops (Row.Draws next) s kept t = (answer : Result (List ℕ) Failed) × (u : S) × draws s answer u × Stops (next answer) u kept t
  Stops (Row.Reads next) s kept t = (answer : Result ℕ Failed) × (u : S) × reads s answer u × Stops (next answer) u kept t
  Stops (Row.Signs key text next) s kept t = (answer : Result (List ℕ) Failed) × (u : S) × signs s key text answer u × Stops (next answer) u kept t
  Stops (Row.Issues key next) s kept t = (answer : Result (List ℕ) Failed) × (u : S) × issues s key answer u × Stops (next answer) u kept t
  Stops (Row.Stores content next) s kept t = ((kept ≡ Some content) ⊎ (kept ≡ None)) × (t ≡ s)

-- where no call fails: the draws by their numbers, the present second, and what signatures and certificates are made
pub record Outside : Type 0 where
  pub draw : ℕ → List ℕ
  pub now : ℕ
  pub signature : List ℕ → List ℕ → List ℕ
  pub certificate : List ℕ → List ℕ

-- what a row comes to then, and how many draws were made before and after it
abbrev pub given : {C R : Type 0} → Outside → ℕ → Row C R → R × ℕ
given outside made (Row.Ends r) = (r, made)
given outside made (Row.Draws next) = given outside (made + 1) (next (Ok (outside.draw made)))
given outside made (Row.Reads next) = given outside made (next (Ok outside.now))
given outside made (Row.Signs key text next) = given outside made (next (Ok (outside.signature key text)))
given outside made (Row.Issues key next) = given outside made (next (Ok (outside.certificate key)))
given outside made (Row.Stores content next) = given outside made (next (Ok tt))

-- the same row with another result
abbrev pub mapped : {C R T : Type 0} → (R → T) → Row C R → Row C T
mapped f (Row.Ends r) = Row.Ends (f r)
mapped f (Row.Draws next) = Row.Draws (λ answer. mapped f (next answer))
mapped f (Row.Reads next) = Row.Reads (λ answer. mapped f (next answer))
mapped f (Row.Signs key text next) = Row.Signs key text (λ answer. mapped f (next answer))
mapped f (Row.Issues key next) = Row.Issues key (λ answer. mapped f (next answer))
mapped f (Row.Stores content next) = Row.Stores content (λ answer. mapped f (next answer))

-- whatever the outside answers, a row ends with a result of which something holds
abbrev pub Always : {C R : Type 0} → (R → Type 0) → Row C R → Type 0
Always P (Row.Ends r) = P r
Always P (Row.Draws next) = (answer : Result (List ℕ) Failed) → Always P (next answer)
Always P (Row.Reads next) = (answer : Result ℕ Failed) → Always P (next answer)
Always P (Row.Signs key text next) = (answer : Result (List ℕ) Failed) → Always P (next answer)
Always P (Row.Issues key next) = (answer : Result (List ℕ) Failed) → Always P (next answer)
Always P (Row.Stores content next) = (answer : Result (Unit {0}) Failed) → Always P (next answer)

-- it writes nothing
abbrev pub WritesNothing : {C R : Type 0} → Row C R → Type 0
WritesNothing (Row.Ends r) = Unit {0}
WritesNothing (Row.Draws next) = (answer : Result (List ℕ) Failed) → WritesNothing (next answer)
WritesNothing (Row.Reads next) = (answer : Result ℕ Failed) → WritesNothing (next answer)
WritesNothing (Row.Signs key text next) = (answer : Result (List ℕ) Failed) → WritesNothing (next answer)
WritesNothing (Row.Issues key next) = (answer : Result (List ℕ) Failed) → WritesNothing (next answer)
WritesNothing (Row.Stores content next) = ⊥
