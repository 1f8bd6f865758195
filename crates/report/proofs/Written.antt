-- Writes one after another.
use Rattle.std.proofs.Common.{◌≡◌, ℕ, suc, ◌+◌, ◌<◌, ◌≤◌, List, [], ◌∷◌, ◌++◌, length, take, drop, get_or, Bool, true, Result, Ok, Err, Option, sym, ap, ◌∙◌, subst, append_assoc, append-nil, arith, take-append-drop, drop-cons}
use Rattle.std.specs.Prelude.{IsErr}
use Rattle.std.specs.List.{flat_map}
use Rattle.std.proofs.lemmas.Grind.{flat_map-append}
use Rattle.std.specs.Io.KnownBytes.{Appends}
use Rattle.std.proofs.KnownBytes.{Appends-trans}
use Rattle.std.proofs.lemmas.List.{take_all, take_more}
use Rattle.wb_text.specs.Memory.{AppendsPrefix}

-- `Writes`, of what the writer holds and of its mark
abbrev pub Wrote : {A E : Type 0} → Option (List ℕ) → Option (List ℕ) → Bool → Result A E → List ℕ → Type 0
Wrote old new failed (Ok done) bytes = Appends old new bytes
Wrote old new failed (Err fault) bytes = AppendsPrefix old new bytes × (failed ≡ true)

-- a prefix of what follows what was written, whatever would have come next
pub prefix_of : (old mid new : Option (List ℕ)) (as' bs cs whole : List ℕ) → Appends old mid as' → AppendsPrefix mid new bs → whole ≡ as' ++ (bs ++ cs) → AppendsPrefix old new whole
prefix_of old mid new as' bs cs whole done part e =
    let given = part.1.given in (
      part.0 ++ cs,
      record {
        given = as' ++ given;
        split = e ∙ ap (λ l. as' ++ (l ++ cs)) part.1.split ∙ ap (λ l. as' ++ l) (append_assoc given part.0 cs) ∙ sym (append_assoc as' given (part.0 ++ cs));
        grown = Appends-trans old mid new as' given done part.1.grown;
      },
    )

pub at_err : {A E : Type 0} (old new : Option (List ℕ)) (failed : Bool) (r : Result A E) (bytes : List ℕ) → IsErr r → AppendsPrefix old new bytes → failed ≡ true → Wrote old new failed r bytes
at_err old new failed (Ok done) bytes is part mark = cc
at_err old new failed (Err fault) bytes is part mark = (part, mark)

-- The exit at a write of bs that failed, after as' was written: cs would have followed.
pub exit : {A E : Type 0} (old mid new : Option (List ℕ)) (failed : Bool) (r : Result A E) (as' bs cs whole : List ℕ) → IsErr r → Appends old mid as' → AppendsPrefix mid new bs × (failed ≡ true) → whole ≡ as' ++ (bs ++ cs) → Wrote old new failed r whole
exit old mid new failed r as' bs cs whole is done part e =
    at_err old new failed r whole is (prefix_of old mid new as' bs cs whole done part.0 e) part.1

-- a write behind another that was done
pub after : {A E : Type 0} (old mid new : Option (List ℕ)) (failed : Bool) (r : Result A E) (as' bs whole : List ℕ) → Appends old mid as' → Wrote mid new failed r bs → whole ≡ as' ++ bs → Wrote old new failed r whole
after old mid new failed (Ok done) as' bs whole a b e =
    let P : List ℕ → Type 0 = λ l. Appends old new l in subst P (sym e) (Appends-trans old mid new as' bs a b)
after old mid new failed (Err fault) as' bs whole a b e =
    (prefix_of old mid new as' bs [] whole a b.0 (e ∙ ap (λ l. as' ++ l) (sym (append-nil bs))), b.1)

-- a list of pieces at its kth
pub flat_map-at : {X : Type 0} (f : X → List ℕ) (xs : List X) (k : ℕ) (d : X) → k < length xs → flat_map f xs ≡ flat_map f (take k xs) ++ (f (get_or xs k d) ++ flat_map f (drop (k + 1) xs))
flat_map-at f xs k d h =
    let next : suc k ≡ k + 1 = omega arith in
    ap (flat_map f) (sym (take-append-drop k xs)) ∙ flat_map-append f (take k xs) (drop k xs) ∙ ap (λ l. flat_map f (take k xs) ++ flat_map f l) (drop-cons xs k d h) ∙ ap (λ n. flat_map f (take k xs) ++ (f (get_or xs k d) ++ flat_map f (drop n xs))) next

pub flat_map-item : {X : Type 0} (f : X → List ℕ) (xs : List X) (k : ℕ) (x : X) → k < length xs → x ≡ get_or xs k x → flat_map f xs ≡ flat_map f (take k xs) ++ (f x ++ flat_map f (drop (k + 1) xs))
flat_map-item f xs k x h e = flat_map-at f xs k x h ∙ ap (λ y. flat_map f (take k xs) ++ (f y ++ flat_map f (drop (k + 1) xs))) (sym e)

-- the same bytes, written otherwise
pub same : {A E : Type 0} (old new : Option (List ℕ)) (failed : Bool) (r : Result A E) (as' bs : List ℕ) → as' ≡ bs → Wrote old new failed r as' → Wrote old new failed r bs
same old new failed r as' bs e w = let P : List ℕ → Type 0 = λ l. Wrote old new failed r l in subst P e w

-- what was written, by the result

pub done_is : {A E : Type 0} (old new : Option (List ℕ)) (failed : Bool) (r : Result A E) (x : A) (bytes : List ℕ) → r ≡ Ok x → Wrote old new failed r bytes → Appends old new bytes
done_is old new failed (Ok y) x bytes e w = w
done_is old new failed (Err y) x bytes e w = cc

pub part_is : {A E : Type 0} (old new : Option (List ℕ)) (failed : Bool) (r : Result A E) (x : E) (bytes : List ℕ) → r ≡ Err x → Wrote old new failed r bytes → AppendsPrefix old new bytes
part_is old new failed (Ok y) x bytes e w = cc
part_is old new failed (Err y) x bytes e w = w.0

-- items that are written one after another, some of them done and the others left

pub one_on : {X : Type 0} (all done rest left : List X) (x : X) → done ++ rest ≡ all → rest ≡ x ∷ left → (done ++ x ∷ []) ++ left ≡ all
one_on all done rest left x e f = append_assoc done (x ∷ []) left ∙ ap (λ l. done ++ l) (sym f) ∙ e

pub line_on : {X : Type 0} (f : X → List ℕ) (a b c : Option (List ℕ)) (done : List X) (x : X) → Appends a b (flat_map f done) → Appends b c (f x) → Appends a c (flat_map f (done ++ x ∷ []))
line_on f a b c done x p q =
    let P : List ℕ → Type 0 = λ l. Appends a c l in
    subst P (sym (flat_map-append f done (x ∷ []) ∙ ap (λ l. flat_map f done ++ l) (append-nil (f x)))) (Appends-trans a b c (flat_map f done) (f x) p q)

pub line_among : {X : Type 0} (f : X → List ℕ) (all done rest left : List X) (x : X) → done ++ rest ≡ all → rest ≡ x ∷ left → flat_map f all ≡ flat_map f done ++ (f x ++ flat_map f left)
line_among f all done rest left x e g = ap (flat_map f) (sym e) ∙ flat_map-append f done rest ∙ ap (λ l. flat_map f done ++ flat_map f l) g

pub lines_done : {X : Type 0} (f : X → List ℕ) (a b : Option (List ℕ)) (all done rest : List X) → done ++ rest ≡ all → rest ≡ [] → Appends a b (flat_map f done) → Appends a b (flat_map f all)
lines_done {X} f a b all done rest e none p =
    let P : List X → Type 0 = λ l. Appends a b (flat_map f l) in
    subst P (sym (append-nil done) ∙ ap (λ l. done ++ l) (sym none) ∙ e) p

-- pieces of a list, one more and all

pub item_on : {X : Type 0} (f : X → List ℕ) (a b c : Option (List ℕ)) (xs : List X) (k : ℕ) (x : X) → k < length xs → x ≡ get_or xs k x → Appends a b (flat_map f (take k xs)) → Appends b c (f x) → Appends a c (flat_map f (take (k + 1) xs))
item_on {X} f a b c xs k x h e p q =
    let P : List X → Type 0 = λ l. Appends a c (flat_map f l) in
    subst P (sym (take_more xs k x h ∙ ap (λ y. take k xs ++ y ∷ []) (sym e))) (line_on f a b c (take k xs) x p q)

pub items_done : {X : Type 0} (f : X → List ℕ) (a b : Option (List ℕ)) (xs : List X) (k : ℕ) → length xs ≤ k → Appends a b (flat_map f (take k xs)) → Appends a b (flat_map f xs)
items_done {X} f a b xs k h p = let P : List X → Type 0 = λ l. Appends a b (flat_map f l) in subst P (take_all k xs h) p
