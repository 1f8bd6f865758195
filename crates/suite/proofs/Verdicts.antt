-- Verdicts, one behind another.
use Rattle.std.proofs.Common.{◌≡◌, ℕ, suc, ◌+◌, ◌<◌, ◌≤◌, List, [], ◌∷◌, ◌++◌, length, map, drop, get_or, sym, ap, ◌∙◌, subst, append_assoc, append-nil, arith, drop-cons, refl}
use Rattle.std.proofs.lemmas.List.{drop_all, map-append}
use Rattle.std.specs.Prelude.{All}
use Rattle.std.proofs.lemmas.List.Elements.{All-push}
use Rattle.litmus_tree.specs.Tree.{Litmus}
use Rattle.cat_model.specs.Models.{Assembly}
use Rattle.slices.specs.VerdictValues.{VerdictValue}
use Rattle.slices.specs.Works.{WorkValue}
use Rattle.suite.specs.Judged.{IsRight, works_of}

works_on : (t : Litmus) (ms : List Assembly) (k : ℕ) (m : Assembly) (vs more : List VerdictValue) (v : VerdictValue) → map (λ x. x.work) vs ++ works_of t (drop k ms) ≡ works_of t ms → k < length ms → m ≡ get_or ms k m
    → v.work ≡ record { test = t; model = m } → more ≡ vs ++ v ∷ [] → map (λ x. x.work) more ++ works_of t (drop (k + 1) ms) ≡ works_of t ms
works_on t ms k m vs more v e inside here is pushed =
    let next : suc k ≡ k + 1 = omega arith in
    let W : VerdictValue → WorkValue = λ x. x.work in
    let rest : List WorkValue = works_of t (drop (k + 1) ms) in
    let cut : drop k ms ≡ m ∷ drop (k + 1) ms = drop-cons ms k m inside ∙ ap (λ n. get_or ms k m ∷ drop n ms) next ∙ ap (λ (x : Assembly). x ∷ drop (k + 1) ms) (sym here) in
    ap (λ (l : List VerdictValue). map W l ++ rest) pushed
    ∙ ap (λ (l : List WorkValue). l ++ rest) (map-append W vs (v ∷ []))
    ∙ append_assoc (map W vs) (W v ∷ []) rest
    ∙ ap (λ (w : WorkValue). map W vs ++ (w ∷ rest)) is
    ∙ sym (ap (λ (l : List Assembly). map W vs ++ works_of t l) cut)
    ∙ e

pub judged_on : (t : Litmus) (ms : List Assembly) (k : ℕ) (m : Assembly) (vs more : List VerdictValue) (v : VerdictValue) → (map (λ x. x.work) vs ++ works_of t (drop k ms) ≡ works_of t ms) × All IsRight vs → k < length ms → m ≡ get_or ms k m
    → v.work ≡ record { test = t; model = m } → IsRight v → more ≡ vs ++ v ∷ [] → (map (λ x. x.work) more ++ works_of t (drop (k + 1) ms) ≡ works_of t ms) × All IsRight more
judged_on t ms k m vs more v done inside here is right pushed =
    let P : List VerdictValue → Type 0 = λ l. All IsRight l in
    (works_on t ms k m vs more v done.0 inside here is pushed, subst P (sym pushed) (All-push IsRight vs v done.1 right))

pub judged_none : (t : Litmus) (ms : List Assembly) (vs : List VerdictValue) → vs ≡ [] → (map (λ x. x.work) vs ++ works_of t ms ≡ works_of t ms) × All IsRight vs
judged_none t ms vs none =
    let P : List VerdictValue → Type 0 = λ l. (map (λ x. x.work) l ++ works_of t ms ≡ works_of t ms) × All IsRight l in
    subst P (sym none) (refl, λ k d l. absurd (omega (arith, l)))

pub judged_all : (t : Litmus) (ms : List Assembly) (k : ℕ) (vs : List VerdictValue) → length ms ≤ k → map (λ x. x.work) vs ++ works_of t (drop k ms) ≡ works_of t ms → map (λ x. x.work) vs ≡ works_of t ms
judged_all t ms k vs all so_far =
    let W : VerdictValue → WorkValue = λ x. x.work in
    sym (append-nil (map W vs)) ∙ ap (λ (l : List Assembly). map W vs ++ works_of t l) (sym (drop_all k ms all)) ∙ so_far
