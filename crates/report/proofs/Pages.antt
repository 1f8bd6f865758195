-- Lines of states, and bytes that are held back.
use Rattle.std.proofs.Common.{◌≡◌, ℕ, zero, suc, ◌≤◌, List, [], ◌∷◌, ◌++◌, length, drop, map, min, codes, decimal, arith, Bool, Result, Ok, Err, Option, refl, sym, ap, ◌∙◌, append_assoc, append-nil}
use Rattle.std.specs.Prelude.{OnErr, OnOk}
use Rattle.std.specs.List.{zip, flat_map}
use Rattle.std.specs.Io.KnownBytes.{Appends}
use Rattle.std.proofs.lemmas.Grind.{flat_map-append}
use Rattle.std.proofs.KnownBytes.{Appends-nil, Appends-trans}
use Rattle.wb_text.specs.Memory.{AppendsPrefix}
use Rattle.conditions.specs.declared.place.Place.{Place}
use Rattle.report.specs.Pages.{Holds, labelled, labels_from}
use Rattle.report.specs.Texts.{place_text, state_line}
use Rattle.report.proofs.Bindings.{left, all_left}
use Rattle.report.proofs.Written.{Wrote, prefix_of}

pub labels_left : (separator : List ℕ) (places : List Place) (values : List ℕ) → labelled (labels_from separator places) values ≡ left separator (zip places values)
labels_left separator [] values = refl
labels_left separator (p ∷ ps) [] = refl
labels_left separator (p ∷ ps) (v ∷ vs) = ap (λ l. ((separator ++ place_text p ++ codes "=") ++ (decimal v ++ codes ";")) ++ l) (labels_left (codes " ") ps vs) ∙ simp append_assoc

no_value : (labels : List (List ℕ)) → labelled labels [] ≡ []
no_value [] = refl
no_value (label ∷ labels) = refl

-- behind the end of the shorter list nothing is left
pub none_left : {X : Type 0} (f : X → List ℕ) (n : ℕ) (labels : List X) (values : List ℕ) → min (length labels) (length values) ≤ n → labelled (map f (drop n labels)) (drop n values) ≡ []
none_left f zero [] values h = refl
none_left f zero (x ∷ xs) [] h = refl
none_left f zero (x ∷ xs) (v ∷ vs) h = absurd (grind (arith, h))
none_left f (suc n) [] values h = refl
none_left f (suc n) (x ∷ xs) [] h = no_value (map f (drop n xs))
none_left f (suc n) (x ∷ xs) (v ∷ vs) h = none_left f n xs vs (grind (arith, h))

-- what a writer has taken of bytes that were held back and of others behind them, where it failed
pub part_held : {A E : Type 0} (old new : Option (List ℕ)) (r : Result A E) (held bytes : List ℕ) → AppendsPrefix old new held → OnErr r (AppendsPrefix old new (held ++ bytes))
part_held old new (Ok done) held bytes part = tt
part_held old new (Err fault) held bytes part = prefix_of old old new [] held bytes (held ++ bytes) (Appends-nil old) part refl

pub part_behind : {A E : Type 0} (old mid new : Option (List ℕ)) (failed : Bool) (r : Result A E) (held bytes : List ℕ) → Appends old mid held → Wrote mid new failed r bytes → OnErr r (AppendsPrefix old new (held ++ bytes))
part_behind old mid new failed (Ok done) held bytes sent wrote = tt
part_behind old mid new failed (Err fault) held bytes sent wrote = prefix_of old mid new held bytes [] (held ++ bytes) sent wrote.0 (ap (λ l. held ++ l) (sym (append-nil bytes)))

pub line_is : (labels : List (List ℕ)) (places : List Place) (values : List ℕ) → labels ≡ labels_from [] places → labelled labels values ++ codes "\n" ≡ state_line places values
line_is labels places values e = ap (λ l. l ++ codes "\n") (ap (λ ls. labelled ls values) e ∙ labels_left [] places values ∙ sym (all_left (zip places values)))

-- what is held back, where all was written, or nothing
pub held_more : (old : Option (List ℕ)) (before after bytes : List ℕ) → after ≡ before ++ bytes → Holds old before old after bytes
held_more old before after bytes e = ([], Appends-nil old, sym e)

pub held_anew : (old new : Option (List ℕ)) (before after bytes : List ℕ) → Appends old new before → after ≡ bytes → Holds old before new after bytes
held_anew old new before after bytes sent e = (before, sent, ap (λ l. before ++ l) (sym e))

pub all_written : {A E : Type 0} (old mid new : Option (List ℕ)) (failed : Bool) (r : Result A E) (before after bytes : List ℕ) → Appends old mid before → Wrote mid new failed r bytes → after ≡ [] → OnOk r (Holds old before new after bytes)
all_written old mid new failed (Ok done) before after bytes sent wrote none =
    (before ++ bytes, Appends-trans old mid new before bytes sent wrote, sym (append-nil (before ++ bytes)) ∙ ap (λ l. (before ++ bytes) ++ l) (sym none))
all_written old mid new failed (Err fault) before after bytes sent wrote none = tt

-- lines that are sent and held back, and one more
pub held_on : {X : Type 0} (f : X → List ℕ) (done : List X) (x : X) (sent before more after : List ℕ) → sent ++ before ≡ flat_map f done → before ++ f x ≡ more ++ after → (sent ++ more) ++ after ≡ flat_map f (done ++ x ∷ [])
held_on f done x sent before more after e g =
    append_assoc sent more after ∙ ap (λ l. sent ++ l) (sym g) ∙ sym (append_assoc sent before (f x)) ∙ ap (λ l. l ++ f x) e
    ∙ ap (λ l. flat_map f done ++ l) (sym (append-nil (f x))) ∙ sym (flat_map-append f done (x ∷ []))

-- what stands before what is held back and the line behind it
pub held_among : (whole done sent before line left : List ℕ) → whole ≡ done ++ (line ++ left) → sent ++ before ≡ done → whole ≡ sent ++ ((before ++ line) ++ left)
held_among whole done sent before line left e g =
    e ∙ ap (λ l. l ++ (line ++ left)) (sym g) ∙ append_assoc sent before (line ++ left) ∙ ap (λ l. sent ++ l) (sym (append_assoc before line left))
