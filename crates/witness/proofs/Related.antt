-- Whether a relation has a pair, and how relations are written.
use Rattle.std.proofs.Common.{◌≡◌, ℕ, ◌≤◌, ◌↔◌, List, [], ◌∷◌, Bool, true, false, IsTrue, length, refl, sym, ◌∙◌, arith, ◌&&◌, ltb}
use Rattle.std.specs.Prelude.{All, nat_eq}
use Rattle.std.specs.List.{list_all}
use Rattle.std.proofs.lemmas.Bool.{and_parts, eq-eqb, eqb-true, false≢true}
use Rattle.std.proofs.lemmas.Bool.Decides.{Decides-ltb}
use Rattle.std.proofs.lemmas.List.Elements.{All-nil, All-cons}
use Rattle.cat_model.specs.Named.{spelling_of}
use Rattle.cat_model.specs.declared.named.Named.TheVariants.{Rel}
use Rattle.cat_tree.specs.Tree.{Word}
use Rattle.events.specs.declared.named.RelName.{RelName}
use Rattle.events.specs.declared.named.RelName.TheVariants as rels
use Rattle.relations.specs.Equality.{pair_below}
use Rattle.relations.specs.Relation.{IsCanonical, Relation, In}
use Rattle.relations.specs.Tables.{cell}
use Rattle.wb_text.specs.Names.{IsName, IsPrintable}
use Rattle.witness.specs.Labels.{hidden_if, without}

no_truth : (b : Bool) → (b ≡ true → ⊥) → false ≡ b
no_truth true h = absurd (h refl)
no_truth false h = refl

pub past_from : (r : Relation) (i j : ℕ) → IsCanonical r → r.count ≤ i → false ≡ cell r.pairs i j
past_from r i j c l = no_truth (cell r.pairs i j) (λ h. (let b = (pair_below r i j c h).0 in absurd (omega (arith, b, l))))

pub past_to : (r : Relation) (i j : ℕ) → IsCanonical r → r.count ≤ j → false ≡ cell r.pairs i j
past_to r i j c l = no_truth (cell r.pairs i j) (λ h. (let b = (pair_below r i j c h).1 in absurd (omega (arith, b, l))))

same_truth : (a b : Bool) → (a ≡ true → b ≡ true) → (b ≡ true → a ≡ true) → a ≡ b
same_truth true true f g = refl
same_truth true false f g = sym (f refl)
same_truth false true f g = g refl
same_truth false false f g = refl

pub same_cell : (b : Bool) (r : Relation) (i j : ℕ) → IsTrue b ↔ In r i j → b ≡ cell r.pairs i j
same_cell b r i j h = same_truth b (cell r.pairs i j) h.0 h.1

-- a definition with no parameters, and with some

pub none_hidden : (ps : List Word) (y : Word) (xs : List Word) → nat_eq (length ps) 0 ≡ true → xs ≡ hidden_if ps y xs
none_hidden [] y xs e = refl
none_hidden (p ∷ ps) y xs e = absurd (let z : length (p ∷ ps) ≡ 0 = eqb-true (length (p ∷ ps)) 0 e in omega (arith, z))

pub one_hidden : (ps : List Word) (y : Word) (xs ys : List Word) → nat_eq (length ps) 0 ≡ false → ys ≡ without y xs → ys ≡ hidden_if ps y xs
one_hidden [] y xs ys e h = absurd (false≢true (sym e ∙ eq-eqb 0 0 refl))
one_hidden (p ∷ ps) y xs ys e h = h

-- each spelling is a name

printable : (x : Word) → list_all (λ b. ltb 32 b && ltb b 127) x ≡ true → All IsPrintable x
printable [] e = All-nil IsPrintable
printable (b ∷ x) e =
    let p = and_parts (ltb 32 b && ltb b 127) (list_all (λ b. ltb 32 b && ltb b 127) x) e in
    let q = and_parts (ltb 32 b) (ltb b 127) p.0 in
    let low = (Decides-ltb 32 b).0 q.0 in
    let high = (Decides-ltb b 127).0 q.1 in
    All-cons IsPrintable b x (omega (arith, low), omega (arith, high)) (printable x p.1)

name_of : (x : Word) → ltb 0 (length x) ≡ true → ltb (length x) 65 ≡ true → list_all (λ b. ltb 32 b && ltb b 127) x ≡ true → IsName x
name_of x e f g = (
    let low = (Decides-ltb 0 (length x)).0 e in
    let high = (Decides-ltb (length x) 65).0 f in
    record { nonempty = omega (arith, low); at_most = omega (arith, high); printable = printable x g })

pub spelling_is_name : (r : RelName) → IsName (spelling_of (Rel r))
unfolding spelling_of
spelling_is_name rels.Po = name_of (spelling_of (Rel rels.Po)) refl refl refl
spelling_is_name rels.Int = name_of (spelling_of (Rel rels.Int)) refl refl refl
spelling_is_name rels.Ext = name_of (spelling_of (Rel rels.Ext)) refl refl refl
spelling_is_name rels.Loc = name_of (spelling_of (Rel rels.Loc)) refl refl refl
spelling_is_name rels.PoLoc = name_of (spelling_of (Rel rels.PoLoc)) refl refl refl
spelling_is_name rels.Rf = name_of (spelling_of (Rel rels.Rf)) refl refl refl
spelling_is_name rels.Co = name_of (spelling_of (Rel rels.Co)) refl refl refl
spelling_is_name rels.Fr = name_of (spelling_of (Rel rels.Fr)) refl refl refl
spelling_is_name rels.Rfi = name_of (spelling_of (Rel rels.Rfi)) refl refl refl
spelling_is_name rels.Coi = name_of (spelling_of (Rel rels.Coi)) refl refl refl
spelling_is_name rels.Fri = name_of (spelling_of (Rel rels.Fri)) refl refl refl
spelling_is_name rels.Rfe = name_of (spelling_of (Rel rels.Rfe)) refl refl refl
spelling_is_name rels.Coe = name_of (spelling_of (Rel rels.Coe)) refl refl refl
spelling_is_name rels.Fre = name_of (spelling_of (Rel rels.Fre)) refl refl refl
spelling_is_name rels.Rmw = name_of (spelling_of (Rel rels.Rmw)) refl refl refl
spelling_is_name rels.Data = name_of (spelling_of (Rel rels.Data)) refl refl refl
spelling_is_name rels.Ctrl = name_of (spelling_of (Rel rels.Ctrl)) refl refl refl
spelling_is_name rels.Addr = name_of (spelling_of (Rel rels.Addr)) refl refl refl
spelling_is_name rels.Id = name_of (spelling_of (Rel rels.Id)) refl refl refl
