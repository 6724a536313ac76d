-- What the parts of a known form say, at their places and as items.
use Rattle.std.proofs.Common.{◌≡◌, ℕ, ℤ, List, [], ◌∷◌, map, Bool, true, false, cond, Option, Some, None, refl, ap, ◌∙◌}
use Rattle.std.specs.Prelude.{option_map, option_and_then, flat_map, if◌then◌else◌}
use Rattle.cbor_core.specs.declared.item.Item.{Item, out-Item}
use Rattle.cbor_core.specs.declared.item.Item.TheOpen.{Item-F}
use Rattle.cbor_core.specs.Numbers.{integer_in}
use Rattle.cbor_core.specs.Parts.{inner, inner_in}
use Rattle.cbor_core.specs.Spots.{Spot, Standing, spot_item, spot_parts}
use Rattle.cbor_core.specs.Shapes.{is_array, array_layer, two_of, three_of, four_of, five_of, six_of, two_items, three_items, four_items, five_items, six_items, two_spots, three_spots, four_spots, five_spots, six_spots, is_map, pairs_layer, is_number, labelled, labelled_in, labelled_spot, labelled_at, is_tag, tagged_layer, tagged_in, head_of, tagged_at}

-- ---- parts seen in two ways

composed : {O X Y : Type 0} (spots : O → X) (view : X → Y) (o : Option O) → option_map (λ p. view (spots p)) o ≡ option_map view (option_map spots o)
composed spots view None = refl
composed spots view (Some p) = refl

agrees : {O X Y : Type 0} (spots : O → X) (view : X → Y) (o : Option O) (x : Option X) (y : Option Y) → option_map spots o ≡ x → option_map view x ≡ y → option_map (λ p. view (spots p)) o ≡ y
agrees spots view o x y e h = composed spots view o ∙ ap (option_map view) e ∙ h

-- an array whose places say its items
array_says : {X Y : Type 0} (places : List Spot → Option X) (said : List Item → Option Y) (view : X → Y) → ((ss : List Spot) → option_map view (places ss) ≡ said (map spot_item ss))
    → (f : Item-F Item) (ss : List Spot) → map spot_item ss ≡ inner_in f → option_map view (if is_array f then places ss else None) ≡ option_and_then said (array_layer f)
array_says places said view same (Item-F.Uint n) ss e = refl
array_says places said view same (Item-F.Nint n) ss e = refl
array_says places said view same (Item-F.Bytes b) ss e = refl
array_says places said view same (Item-F.Text t) ss e = refl
array_says places said view same (Item-F.Array xs) ss e = same ss ∙ ap said e
array_says places said view same (Item-F.Map ps) ss e = refl
array_says places said view same (Item-F.Tag t x) ss e = refl
array_says places said view same (Item-F.Simple n) ss e = refl

-- ---- arrays of a known length

two_same : (ss : List Spot) → option_map (λ (p : Spot × Spot). (spot_item p.0, spot_item p.1)) (two_of ss) ≡ two_of (map spot_item ss)
two_same [] = refl
two_same (a ∷ []) = refl
two_same (a ∷ b ∷ []) = refl
two_same (a ∷ b ∷ c ∷ ss) = refl

three_same : (ss : List Spot) → option_map (λ (p : Spot × Spot × Spot). (spot_item p.0, spot_item p.1, spot_item p.2)) (three_of ss) ≡ three_of (map spot_item ss)
three_same [] = refl
three_same (a ∷ []) = refl
three_same (a ∷ b ∷ []) = refl
three_same (a ∷ b ∷ c ∷ []) = refl
three_same (a ∷ b ∷ c ∷ d ∷ ss) = refl

four_same : (ss : List Spot) → option_map (λ (p : Spot × Spot × Spot × Spot). (spot_item p.0, spot_item p.1, spot_item p.2, spot_item p.3)) (four_of ss) ≡ four_of (map spot_item ss)
four_same [] = refl
four_same (a ∷ []) = refl
four_same (a ∷ b ∷ []) = refl
four_same (a ∷ b ∷ c ∷ []) = refl
four_same (a ∷ b ∷ c ∷ d ∷ []) = refl
four_same (a ∷ b ∷ c ∷ d ∷ e ∷ ss) = refl

five_same : (ss : List Spot) → option_map (λ (p : Spot × Spot × Spot × Spot × Spot). (spot_item p.0, spot_item p.1, spot_item p.2, spot_item p.3, spot_item p.4)) (five_of ss) ≡ five_of (map spot_item ss)
five_same [] = refl
five_same (a ∷ []) = refl
five_same (a ∷ b ∷ []) = refl
five_same (a ∷ b ∷ c ∷ []) = refl
five_same (a ∷ b ∷ c ∷ d ∷ []) = refl
five_same (a ∷ b ∷ c ∷ d ∷ e ∷ []) = refl
five_same (a ∷ b ∷ c ∷ d ∷ e ∷ f ∷ ss) = refl

six_same : (ss : List Spot) → option_map (λ (p : Spot × Spot × Spot × Spot × Spot × Spot). (spot_item p.0, spot_item p.1, spot_item p.2, spot_item p.3, spot_item p.4, spot_item p.5)) (six_of ss) ≡ six_of (map spot_item ss)
six_same [] = refl
six_same (a ∷ []) = refl
six_same (a ∷ b ∷ []) = refl
six_same (a ∷ b ∷ c ∷ []) = refl
six_same (a ∷ b ∷ c ∷ d ∷ []) = refl
six_same (a ∷ b ∷ c ∷ d ∷ e ∷ []) = refl
six_same (a ∷ b ∷ c ∷ d ∷ e ∷ f ∷ []) = refl
six_same (a ∷ b ∷ c ∷ d ∷ e ∷ f ∷ g ∷ ss) = refl

pub two_agree : (s : Spot) (o : Option (Standing × Standing)) → option_map (λ p. (p.0.spot, p.1.spot)) o ≡ two_spots s → map spot_item (spot_parts s) ≡ inner (spot_item s)
    → option_map (λ p. (spot_item p.0.spot, spot_item p.1.spot)) o ≡ two_items (spot_item s)
two_agree s o e parts = agrees (λ (p : Standing × Standing). (p.0.spot, p.1.spot)) (λ (p : Spot × Spot). (spot_item p.0, spot_item p.1)) o (two_spots s) (two_items (spot_item s)) e
    (array_says two_of two_of (λ (p : Spot × Spot). (spot_item p.0, spot_item p.1)) two_same (out-Item (spot_item s)) (spot_parts s) parts)

pub three_agree : (s : Spot) (o : Option (Standing × Standing × Standing)) → option_map (λ p. (p.0.spot, p.1.spot, p.2.spot)) o ≡ three_spots s → map spot_item (spot_parts s) ≡ inner (spot_item s)
    → option_map (λ p. (spot_item p.0.spot, spot_item p.1.spot, spot_item p.2.spot)) o ≡ three_items (spot_item s)
three_agree s o e parts = agrees (λ (p : Standing × Standing × Standing). (p.0.spot, p.1.spot, p.2.spot)) (λ (p : Spot × Spot × Spot). (spot_item p.0, spot_item p.1, spot_item p.2)) o (three_spots s) (three_items (spot_item s)) e
    (array_says three_of three_of (λ (p : Spot × Spot × Spot). (spot_item p.0, spot_item p.1, spot_item p.2)) three_same (out-Item (spot_item s)) (spot_parts s) parts)

pub four_agree : (s : Spot) (o : Option (Standing × Standing × Standing × Standing)) → option_map (λ p. (p.0.spot, p.1.spot, p.2.spot, p.3.spot)) o ≡ four_spots s → map spot_item (spot_parts s) ≡ inner (spot_item s)
    → option_map (λ p. (spot_item p.0.spot, spot_item p.1.spot, spot_item p.2.spot, spot_item p.3.spot)) o ≡ four_items (spot_item s)
four_agree s o e parts = agrees (λ (p : Standing × Standing × Standing × Standing). (p.0.spot, p.1.spot, p.2.spot, p.3.spot)) (λ (p : Spot × Spot × Spot × Spot). (spot_item p.0, spot_item p.1, spot_item p.2, spot_item p.3)) o (four_spots s) (four_items (spot_item s)) e
    (array_says four_of four_of (λ (p : Spot × Spot × Spot × Spot). (spot_item p.0, spot_item p.1, spot_item p.2, spot_item p.3)) four_same (out-Item (spot_item s)) (spot_parts s) parts)

pub five_agree : (s : Spot) (o : Option (Standing × Standing × Standing × Standing × Standing)) → option_map (λ p. (p.0.spot, p.1.spot, p.2.spot, p.3.spot, p.4.spot)) o ≡ five_spots s → map spot_item (spot_parts s) ≡ inner (spot_item s)
    → option_map (λ p. (spot_item p.0.spot, spot_item p.1.spot, spot_item p.2.spot, spot_item p.3.spot, spot_item p.4.spot)) o ≡ five_items (spot_item s)
five_agree s o e parts = agrees (λ (p : Standing × Standing × Standing × Standing × Standing). (p.0.spot, p.1.spot, p.2.spot, p.3.spot, p.4.spot)) (λ (p : Spot × Spot × Spot × Spot × Spot). (spot_item p.0, spot_item p.1, spot_item p.2, spot_item p.3, spot_item p.4)) o (five_spots s) (five_items (spot_item s)) e
    (array_says five_of five_of (λ (p : Spot × Spot × Spot × Spot × Spot). (spot_item p.0, spot_item p.1, spot_item p.2, spot_item p.3, spot_item p.4)) five_same (out-Item (spot_item s)) (spot_parts s) parts)

pub six_agree : (s : Spot) (o : Option (Standing × Standing × Standing × Standing × Standing × Standing)) → option_map (λ p. (p.0.spot, p.1.spot, p.2.spot, p.3.spot, p.4.spot, p.5.spot)) o ≡ six_spots s → map spot_item (spot_parts s) ≡ inner (spot_item s)
    → option_map (λ p. (spot_item p.0.spot, spot_item p.1.spot, spot_item p.2.spot, spot_item p.3.spot, spot_item p.4.spot, spot_item p.5.spot)) o ≡ six_items (spot_item s)
six_agree s o e parts = agrees (λ (p : Standing × Standing × Standing × Standing × Standing × Standing). (p.0.spot, p.1.spot, p.2.spot, p.3.spot, p.4.spot, p.5.spot)) (λ (p : Spot × Spot × Spot × Spot × Spot × Spot). (spot_item p.0, spot_item p.1, spot_item p.2, spot_item p.3, spot_item p.4, spot_item p.5)) o (six_spots s) (six_items (spot_item s)) e
    (array_says six_of six_of (λ (p : Spot × Spot × Spot × Spot × Spot × Spot). (spot_item p.0, spot_item p.1, spot_item p.2, spot_item p.3, spot_item p.4, spot_item p.5)) six_same (out-Item (spot_item s)) (spot_parts s) parts)

pub six_are : (s : Spot) (a b c d e f : Standing) → is_array (out-Item (spot_item s)) ≡ true → spot_parts s ≡ a.spot ∷ a.later → a.later ≡ b.spot ∷ b.later → b.later ≡ c.spot ∷ c.later → c.later ≡ d.spot ∷ d.later
    → d.later ≡ e.spot ∷ e.later → e.later ≡ f.spot ∷ f.later → f.later ≡ [] → Some (a.spot, b.spot, c.spot, d.spot, e.spot, f.spot) ≡ six_spots s
six_are s a b c d e f is first second third fourth fifth sixth last = rw (is, first, second, third, fourth, fifth, sixth, last) refl

-- ---- labels

label_same : (label : ℤ) (ss : List Spot) (ps : List (Item × Item)) → map spot_item ss ≡ flat_map (λ p. p.0 ∷ p.1 ∷ []) ps → option_map spot_item (labelled_spot label ss) ≡ labelled label ps
label_same label [] [] e = refl
label_same label [] (p ∷ ps) e = absurd (cc e)
label_same label (k ∷ []) [] e = absurd (cc e)
label_same label (k ∷ []) (p ∷ ps) e = absurd (cc e)
label_same label (k ∷ v ∷ ss) [] e = absurd (cc e)
label_same label (k ∷ v ∷ ss) (p ∷ ps) e =
    let key : spot_item k ≡ p.0 = cc e in
    let value : spot_item v ≡ p.1 = cc e in
    let rest : map spot_item ss ≡ flat_map (λ p. p.0 ∷ p.1 ∷ []) ps = cc e in
    go (is_number label (integer_in p.0)) key value (label_same label ss ps rest) refl
  where
    go : (b : Bool) → spot_item k ≡ p.0 → spot_item v ≡ p.1 → option_map spot_item (labelled_spot label ss) ≡ labelled label ps → is_number label (integer_in p.0) ≡ b
        → option_map spot_item (labelled_spot label (k ∷ v ∷ ss)) ≡ labelled label (p ∷ ps)
    go true key value later is = rw (key, is) (ap Some value)
    go false key value later is = rw (key, is) later

pub map_at : (label : ℤ) (s : Spot) (o : Option Spot) → is_map (out-Item (spot_item s)) ≡ true → o ≡ labelled_spot label (spot_parts s) → o ≡ labelled_at label s
map_at label s o is e = rw is e

map_says : (label : ℤ) (f : Item-F Item) (ss : List Spot) → map spot_item ss ≡ inner_in f → option_map spot_item (if is_map f then labelled_spot label ss else None) ≡ option_and_then (labelled label) (pairs_layer f)
map_says label (Item-F.Uint n) ss e = refl
map_says label (Item-F.Nint n) ss e = refl
map_says label (Item-F.Bytes b) ss e = refl
map_says label (Item-F.Text t) ss e = refl
map_says label (Item-F.Array xs) ss e = refl
map_says label (Item-F.Map ps) ss e = label_same label ss ps e
map_says label (Item-F.Tag t x) ss e = refl
map_says label (Item-F.Simple n) ss e = refl

pub label_agree : (label : ℤ) (s : Spot) (o : Option Standing) → option_map (λ p. p.spot) o ≡ labelled_at label s → map spot_item (spot_parts s) ≡ inner (spot_item s) → option_map (λ p. spot_item p.spot) o ≡ labelled_in label (spot_item s)
label_agree label s o e parts = agrees (λ (p : Standing). p.spot) spot_item o (labelled_at label s) (labelled_in label (spot_item s)) e (map_says label (out-Item (spot_item s)) (spot_parts s) parts)

-- ---- tags

tag_same : (number t : ℕ) (x : Item) (ss : List Spot) → map spot_item ss ≡ x ∷ [] → (b : Bool) → option_map spot_item (cond b (head_of ss) None) ≡ cond b (Some x) None
tag_same number t x [] e b = absurd (cc e)
tag_same number t x (s ∷ ss) e true = ap Some (cc e)
tag_same number t x (s ∷ ss) e false = refl

tag_says : (number : ℕ) (f : Item-F Item) (ss : List Spot) → map spot_item ss ≡ inner_in f → option_map spot_item (if is_tag number f then head_of ss else None) ≡ tagged_layer number f
tag_says number (Item-F.Uint n) ss e = refl
tag_says number (Item-F.Nint n) ss e = refl
tag_says number (Item-F.Bytes b) ss e = refl
tag_says number (Item-F.Text t) ss e = refl
tag_says number (Item-F.Array xs) ss e = refl
tag_says number (Item-F.Map ps) ss e = refl
tag_says number (Item-F.Tag t x) ss e = tag_same number t x ss e (is_tag number (Item-F.Tag t x))
tag_says number (Item-F.Simple n) ss e = refl

pub tag_agree : (number : ℕ) (s : Spot) (o : Option Standing) → option_map (λ p. p.spot) o ≡ tagged_at number s → map spot_item (spot_parts s) ≡ inner (spot_item s) → option_map (λ p. spot_item p.spot) o ≡ tagged_in number (spot_item s)
tag_agree number s o e parts = agrees (λ (p : Standing). p.spot) spot_item o (tagged_at number s) (tagged_in number (spot_item s)) e (tag_says number (out-Item (spot_item s)) (spot_parts s) parts)
