-- What is read, and what a stop leaves, are among what a crash may leave.
use Rattle.std.proofs.Common.{◌≡◌, inl, inr, ℕ, ◌-◌, nat_le, ◌==◌, Bool, true, false, if◌then◌else◌, List, [], ◌∷◌, length, replicate, refl, sym, subst}
use Rattle.std.proofs.lemmas.List.{length-replicate}
use Rattle.std.proofs.lemmas.Bool.{false≢true}
use Rattle.disk_port.specs.Story.{Event, Wrote, Tore, Synced, Story, put, readable}
use Rattle.disk_port.specs.Crash.{Torn, Leaves}
use Rattle.disk_port.specs.Picked.{left_of, picked, left_at, left_kept, has_come}
use Rattle.disk_port.specs.Turn.{nearer, stop_in}
use Rattle.disk_port.specs.declared.stops.Pick.{Pick}
use Rattle.disk_port.specs.declared.stops.Pick.TheVariants as pick
use Rattle.disk_port.specs.declared.stop.Stop.{Stop}
use Rattle.disk_port.specs.declared.stop.Stop.TheVariants as stop
use Rattle.disk_port.proofs.Written.{put_torn, torn_same}

pub seen_left : (image : List ℕ) (events : List Event) → Leaves image events (readable image events)
seen_left image [] = refl
seen_left image (Wrote at piece ∷ events) = (readable image events, seen_left image events, put_torn at piece (readable image events))
seen_left image (Tore at n left ∷ events) = inl refl
seen_left image (Synced ∷ events) = refl

left_torn : (which : Pick) (at : ℕ) (piece list : List ℕ) → Torn at (length piece) list (left_of which at piece list)
left_torn pick.None at piece list = torn_same at (length piece) list
left_torn pick.All at piece list = put_torn at piece list
left_torn (pick.Byte b) at piece list =
    subst (λ n. Torn at n list (put at (replicate (length piece) b) list)) (length-replicate {A = ℕ} (length piece) b) (put_torn at (replicate (length piece) b) list)

pub picked_left : (which : Pick) (image : List ℕ) (events : List Event) → Leaves image events (picked which image events)
picked_left which image [] = refl
picked_left which image (Wrote at piece ∷ events) = (picked which image events, picked_left which image events, left_torn which at piece (picked which image events))
picked_left which image (Tore at n left ∷ events) = inr (picked which image events, picked_left which image events, torn_same at n (picked which image events))
picked_left which image (Synced ∷ events) = refl

at_left : (s : Stop) (story : Story) → Leaves story.image story.events (left_at s story)
at_left stop.Absent story = seen_left story.image story.events
at_left (stop.In calls which) story = seen_left story.image story.events
at_left (stop.Come which left) story = picked_left which story.image story.events

pub image_left : (s : Stop) (story : Story) (c : List ℕ) → c ≡ left_at s story → Leaves story.image story.events c
image_left s story c is = subst (Leaves story.image story.events) (sym is) (at_left s story)

-- a stop that comes nearer keeps what it kept
pub nearer_right : (s s' : Stop) (story : Story) → s' ≡ nearer s → left_kept s story ≡ left_at s story → left_kept s' story ≡ left_at s' story
nearer_right s s' story is right = subst (λ t. left_kept t story ≡ left_at t story) (sym is) (kept s right)
  where
    within : (b : Bool) (calls n : ℕ) (which : Pick) → left_kept (if b then stop.In calls which else stop.In n which) story ≡ left_at (if b then stop.In calls which else stop.In n which) story
    within true calls n which = refl
    within false calls n which = refl

    kept : (s : Stop) → left_kept s story ≡ left_at s story → left_kept (nearer s) story ≡ left_at (nearer s) story
    kept stop.Absent right = refl
    kept (stop.In calls which) right = within (nat_le calls 1) calls (calls - 1) which
    kept (stop.Come which left) right = right

-- where no stop has come, what it keeps is what is read
pub on_right : (s : Stop) (story : Story) → has_come s ≡ false → left_kept s story ≡ left_at s story
on_right stop.Absent story on = refl
on_right (stop.In calls which) story on = refl
on_right (stop.Come which left) story on = absurd (false≢true (sym on))

-- a stop to come has kept nothing yet
pub in_right : (call : ℕ) (which : Pick) (s : Stop) (story : Story) → s ≡ stop_in call which → left_kept s story ≡ left_at s story
in_right call which s story is = subst (λ t. left_kept t story ≡ left_at t story) (sym is) (within (call == 0))
  where
    within : (b : Bool) → left_kept (if b then stop.Absent else stop.In call which) story ≡ left_at (if b then stop.Absent else stop.In call which) story
    within true = refl
    within false = refl
