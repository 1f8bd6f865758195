-- What is added one part after another, and loops that add to a list what is made of each element in turn.
use Rattle.std.proofs.Common.{◌≡◌, ◌∙◌, ℕ, ◌+◌, ◌<◌, ◌≤◌, Bool, true, false, List, [], ◌∷◌, ◌++◌, length, map, get_or, drop, Result, Ok, Err, ap, sym, refl, append_assoc, append-nil}
use Rattle.std.specs.Prelude.{Option, OnOk, filter, flat_map}
use Rattle.std.proofs.KnownBytes.{Appends-nil}
use Rattle.wb_text.specs.Memory.{AppendsPrefix}
use Rattle.std.proofs.lemmas.Grind.{flat_map-append}
use Rattle.std.proofs.lemmas.List.{at_drop_more, at_drop_all}
use Rattle.listings.specs.Lists.{tabulate}
use Rattle.events.proofs.Numbers.{tabulate_more}

-- two parts that were added
pub both : (old mid new a b : List ℕ) → mid ≡ old ++ a → new ≡ mid ++ b → new ≡ old ++ (a ++ b)
both old mid new a b e f = f ∙ ap (λ l. l ++ b) e ∙ append_assoc old a b

-- two parts that were added, and one that a last call adds
pub three : {A E : Type 0} (r : Result A E) (old one two new a b c : List ℕ) → one ≡ old ++ a → two ≡ one ++ b → OnOk r (new ≡ two ++ c) → OnOk r (new ≡ old ++ (a ++ b ++ c))
three (Ok x) old one two new a b c e f g = both old two new (a ++ b) c (both old one two a b e f) g
three (Err x) old one two new a b c e f g = tt

-- the text of one more number behind those of the numbers before it
pub one_more : (f : ℕ → List ℕ) (n : ℕ) (old mid new : List ℕ) → mid ≡ old ++ flat_map f (tabulate n (λ k. k)) → new ≡ mid ++ f n → new ≡ old ++ flat_map f (tabulate (n + 1) (λ k. k))
one_more f n old mid new e g =
    let more : flat_map f (tabulate (n + 1) (λ k. k)) ≡ flat_map f (tabulate n (λ k. k)) ++ f n =
    ap (flat_map f) (tabulate_more n (λ k. k)) ∙ flat_map-append f (tabulate n (λ k. k)) (n ∷ []) ∙ ap (λ l. flat_map f (tabulate n (λ k. k)) ++ l) (append-nil (f n)) in
    both old mid new (flat_map f (tabulate n (λ k. k))) (f n) e g ∙ ap (λ l. old ++ l) (sym more)

-- nothing is a front part of all bytes
pub nothing_written : (held : Option (List ℕ)) (bytes : List ℕ) → AppendsPrefix held held bytes
nothing_written held bytes = (bytes, record { given = []; split = refl; grown = Appends-nil held })

-- one element more
pub added : {A X : Type 0} (F G : List A → List X) (xs : List A) (i : ℕ) (d : A) (more done grown all : List X) → i < length xs → F (get_or xs i d ∷ drop (i + 1) xs) ≡ more ++ G (drop (i + 1) xs) → grown ≡ done ++ more → done ++ F (drop i xs) ≡ all → grown ++ G (drop (i + 1) xs) ≡ all
added {X = X} F G xs i d more done grown all l step g h =
    let rest = G (drop (i + 1) xs) in
    ap (λ (ys : List X). ys ++ rest) g ∙ append_assoc done more rest ∙ ap (λ (ys : List X). done ++ ys) (sym (at_drop_more F xs i d l ∙ step)) ∙ h

-- an element that gives nothing
pub none_added : {A X : Type 0} (F : List A → List X) (xs : List A) (i : ℕ) (d : A) (done grown all : List X) → i < length xs → F (get_or xs i d ∷ drop (i + 1) xs) ≡ F (drop (i + 1) xs) → grown ≡ done → done ++ F (drop i xs) ≡ all → grown ++ F (drop (i + 1) xs) ≡ all
none_added F xs i d done grown all l step g h = added F F xs i d [] done grown all l step (g ∙ sym (append-nil done)) h

-- no element is left
pub all_added : {A X : Type 0} (F : List A → List X) (xs : List A) (i : ℕ) (done all : List X) → length xs ≤ i → F [] ≡ [] → done ++ F (drop i xs) ≡ all → done ≡ all
all_added {X = X} F xs i done all l e h = sym (append-nil done) ∙ ap (λ (ys : List X). done ++ ys) (sym (at_drop_all F xs i l ∙ e)) ∙ h

-- an element that passes the test, and one that doesn't
pub passes : {A X : Type 0} (f : A → X) (p : A → Bool) (x : A) (xs : List A) → p x ≡ true → map f (filter p (x ∷ xs)) ≡ f x ∷ map f (filter p xs)
passes f p x xs e = rw e refl

pub fails : {A X : Type 0} (f : A → X) (p : A → Bool) (x : A) (xs : List A) → p x ≡ false → map f (filter p (x ∷ xs)) ≡ map f (filter p xs)
fails f p x xs e = rw e refl
