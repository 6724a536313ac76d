-- One more call is kept.
use Rattle.std.proofs.Common.{◌≡◌, ℕ, ◌+◌, ◌<◌, length, take, get_or, sym, List, [], ◌∷◌, ◌++◌, map, reverse, ap, ◌∙◌}
use Rattle.std.proofs.lemmas.List.{map-append, reverse-append, take_more}
use Rattle.disk_port.specs.Story.{readable}
use Rattle.disk_port.specs.History.{event_of, events_of}
use Rattle.disk_port.specs.Picked.{picked}
use Rattle.disk_port.specs.declared.stops.Pick.{Pick}
use Rattle.disk_port.specs.declared.kept.Kept.{Kept}

pub events_more : (calls : List Kept) (call : Kept) → events_of (calls ++ call ∷ []) ≡ event_of call ∷ events_of calls
events_more calls call = ap reverse (map-append event_of calls (call ∷ [])) ∙ reverse-append (map event_of calls) (event_of call ∷ [])

events_at : (calls : List Kept) (i : ℕ) (call : Kept) → i < length calls → call ≡ get_or calls i call → events_of (take (i + 1) calls) ≡ event_of call ∷ events_of (take i calls)
events_at calls i call within is =
    ap events_of (take_more calls i call within ∙ ap (λ c. take i calls ++ c ∷ []) (sym is)) ∙ events_more (take i calls) call

-- what is read and what a stop leaves, one call on
pub readable_more : (image : List ℕ) (calls : List Kept) (i : ℕ) (call : Kept) (now : List ℕ) → i < length calls → call ≡ get_or calls i call → now ≡ readable image (event_of call ∷ events_of (take i calls)) → now ≡ readable image (events_of (take (i + 1) calls))
readable_more image calls i call now within is now_is = now_is ∙ ap (readable image) (sym (events_at calls i call within is))

pub picked_more : (which : Pick) (image : List ℕ) (calls : List Kept) (i : ℕ) (call : Kept) (left : List ℕ) → i < length calls → call ≡ get_or calls i call → left ≡ picked which image (event_of call ∷ events_of (take i calls)) → left ≡ picked which image (events_of (take (i + 1) calls))
picked_more which image calls i call left within is left_is = left_is ∙ ap (picked which image) (sym (events_at calls i call within is))
