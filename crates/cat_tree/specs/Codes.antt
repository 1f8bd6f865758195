-- Codes of the trees, by which the prover tells values of a modelled type apart. No contract rests on them.
use Rattle.std.specs.Prelude.{refl, List, Option, Bool}
use Rattle.std.specs.Coded.{Coded, code_by, coded×, coded_list, coded_ℕ, coded_option, coded_bool, coded⊎}
use Rattle.std.specs.Prelude.{◌⊎◌}
use Rattle.std.proofs.Common.{◌≡◌, inl, inr}
use Rattle.cat_tree.specs.Postorder.{term_in-postorder}
use Rattle.cat_tree.specs.Terms.{postorder, term_in}
use Rattle.cat_tree.specs.Tree.{Word, Term, Defined, Bound, Shown, Clause, bind, bind_recursively, check, include, show, unshow, File}
use Rattle.cat_tree.specs.contracts.tree.CheckKind.{the_row as kind_row}
use Rattle.cat_tree.specs.contracts.node.Node.{the_row as node_row}
use Rattle.cat_tree.specs.declared.tree.CheckKind.{CheckKind}
use Rattle.cat_tree.specs.declared.node.Node.{Node}

-- a term is coded by its nodes
abbrev pub coded_term : Coded Term
coded_term = code_by (List Node) (coded_list node_row.coded) postorder term_in term_in-postorder

abbrev pub coded_word : Coded Word
coded_word = coded_list coded_ℕ

abbrev pub coded_defined : Coded Defined
coded_defined =
    code_by (Word × (List Word × Term)) (coded× coded_word (coded× (coded_list coded_word) coded_term)) (λ d. (d.name, (d.parameters, d.value))) (λ p. record { name = p.0; parameters = p.1.0; value = p.1.1 }) (λ _. refl)

abbrev pub coded_bound : Coded Bound
coded_bound = code_by (Word × Term) (coded× coded_word coded_term) (λ b. (b.name, b.value)) (λ p. record { name = p.0; value = p.1 }) (λ _. refl)

abbrev pub coded_shown : Coded Shown
coded_shown = code_by (Term × Option Word) (coded× coded_term (coded_option coded_word)) (λ b. (b.value, b.alias)) (λ p. record { value = p.0; alias = p.1 }) (λ _. refl)

-- the parts of a check
abbrev pub Parts : Type 0
Parts = Bool × (Bool × (CheckKind × (Term × Option Word)))

-- the parts of an item
abbrev pub Choice : Type 0
Choice = List Defined ⊎ (List Bound ⊎ (Parts ⊎ (Word ⊎ (List Shown ⊎ List Word))))

abbrev pub choice_of : Clause → Choice
choice_of (bind ds) = inl ds
choice_of (bind_recursively bs) = inr (inl bs)
choice_of (check flag negated kind a x) = inr (inr (inl (flag, (negated, (kind, (a, x))))))
choice_of (include x) = inr (inr (inr (inl x)))
choice_of (show es) = inr (inr (inr (inr (inl es))))
choice_of (unshow xs) = inr (inr (inr (inr (inr xs))))

abbrev pub clause_with : Choice → Clause
clause_with (inl ds) = bind ds
clause_with (inr (inl bs)) = bind_recursively bs
clause_with (inr (inr (inl p))) = check p.0 p.1.0 p.1.1.0 p.1.1.1.0 p.1.1.1.1
clause_with (inr (inr (inr (inl x)))) = include x
clause_with (inr (inr (inr (inr (inl es))))) = show es
clause_with (inr (inr (inr (inr (inr xs))))) = unshow xs

pub clause_with-choice_of : (c : Clause) → clause_with (choice_of c) ≡ c
clause_with-choice_of (bind ds) = refl
clause_with-choice_of (bind_recursively bs) = refl
clause_with-choice_of (check flag negated kind a x) = refl
clause_with-choice_of (include x) = refl
clause_with-choice_of (show es) = refl
clause_with-choice_of (unshow xs) = refl

abbrev pub coded_clause : Coded Clause
coded_clause =
    code_by Choice
    (coded⊎ (coded_list coded_defined) (coded⊎ (coded_list coded_bound) (coded⊎ (coded× coded_bool (coded× coded_bool (coded× kind_row.coded (coded× coded_term (coded_option coded_word))))) (coded⊎ coded_word (coded⊎ (coded_list coded_shown) (coded_list coded_word))))))
    choice_of clause_with clause_with-choice_of

abbrev pub coded_file : Coded File
coded_file = code_by (Option Word × List Clause) (coded× (coded_option coded_word) (coded_list coded_clause)) (λ f. (f.title, f.items)) (λ p. record { title = p.0; items = p.1 }) (λ _. refl)
