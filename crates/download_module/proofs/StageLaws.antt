-- What a receiver took, a pair more.
use Rattle.std.proofs.Common.{◌≡◌, List, [], ◌∷◌, ◌++◌, true, false, refl, sym, ap, subst, ◌∙◌, append_assoc}
use Rattle.std.proofs.lemmas.List.{append-nil}
use Rattle.service_info.specs.declared.pair.Pair.{Pair}
use Rattle.download_module.specs.declared.receiver.Receiver.{Receiver}
use Rattle.download_module.specs.Received.{is_of_module, of_module, received}
use Rattle.download_module.specs.Receiver.{Took}
use Rattle.download_module.specs.Stage.{goes_on, Leads}

pub took_all : (r : Receiver) (pairs : List Pair) → Took r pairs → received r.limit (of_module pairs) ≡ goes_on r.limit r.stage []
took_all r pairs took = ap (λ l. received r.limit (of_module l)) (sym (append-nil pairs)) ∙ took.goes []

-- a pair of another module
pub took_over : (r : Receiver) (pairs : List Pair) (pair : Pair) → is_of_module pair ≡ false → Took r pairs → Took r (pairs ++ pair ∷ [])
took_over r pairs pair other took = record {
  hashed = took.hashed;
  goes = λ more. ap (λ l. received r.limit (of_module l)) (append_assoc pairs (pair ∷ []) more) ∙ took.goes (pair ∷ more) ∙ ap (λ (l : List Pair). goes_on r.limit r.stage l) (passed more);
} where
  passed : (more : List Pair) → of_module (pair ∷ more) ≡ of_module more
  passed more = rw other refl

pub took_more : (r r' : Receiver) (pairs : List Pair) (pair : Pair) → r'.limit ≡ r.limit → is_of_module pair ≡ true → Leads r.limit r.stage (pair ∷ []) r'.stage
    → Took r pairs → Took r' (pairs ++ pair ∷ [])
took_more r r' pairs pair same own leads took = record {
  hashed = leads.hashed took.hashed;
  goes = λ more. subst (λ n. received n (of_module ((pairs ++ pair ∷ []) ++ more)) ≡ goes_on n r'.stage (of_module more)) (sym same)
      (ap (λ l. received r.limit (of_module l)) (append_assoc pairs (pair ∷ []) more) ∙ took.goes (pair ∷ more)
      ∙ ap (λ (l : List Pair). goes_on r.limit r.stage l) (kept more) ∙ leads.goes (of_module more));
} where
  kept : (more : List Pair) → of_module (pair ∷ more) ≡ pair ∷ of_module more
  kept more = rw own refl

pub took_same : (r r' : Receiver) (pairs : List Pair) → r'.limit ≡ r.limit → Leads r.limit r.stage [] r'.stage → Took r pairs → Took r' pairs
took_same r r' pairs same leads took = record {
  hashed = leads.hashed took.hashed;
  goes = λ more. subst (λ n. received n (of_module (pairs ++ more)) ≡ goes_on n r'.stage (of_module more)) (sym same) (took.goes more ∙ leads.goes (of_module more));
}
