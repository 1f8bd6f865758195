-- What names stand for behind items, in each of the ways in which expressions are looked at, and that names bound in the code stand for
-- it. (No statement on what a model is rests on this.)
use Rattle.std.specs.Prelude.{◌≡◌, List, [], ◌∷◌, map, Option, Bool, ◌||◌}
use Rattle.std.specs.Option.{is_some}
use Rattle.std.specs.Str.{bytes_eq}
use Rattle.cat_tree.specs.Tree.{Word, Bound, Defined, values_in, functions_in, Clause, bind, bind_recursively, check, include, show, unshow}
use Rattle.cat_model.specs.Beforehand.{beforehand}
use Rattle.cat_model.specs.Denials.{Marking, applied_marks, with_value_marks, with_function_marks}
use Rattle.cat_model.specs.Depths.{Depths, just_depth, applied_depth, with_value_depths, with_function_depths}
use Rattle.cat_model.specs.Lookups.{is_known}
use Rattle.cat_model.specs.Marked.{IsMarked, FitMarks}
use Rattle.cat_model.specs.Named.{named_of}
use Rattle.cat_model.specs.Nesting.{IsNesting, FitDepths}
use Rattle.cat_model.specs.Schemes.{by_scheme, FitSorts}
use Rattle.cat_model.specs.Sizes.{Sizes, just, applied_size, with_value_sizes, with_function_sizes}
use Rattle.cat_model.specs.Sizing.{IsSizing, FitSizes}
use Rattle.cat_model.specs.Sorts.{Sorting, named_sorts, applied_sort, with_value_sorts, with_function_sorts, recursive}
use Rattle.cat_model.specs.declared.scope.BoundName.{BoundName}
use Rattle.cat_model.specs.declared.scope.Summary.{Summary}
use Rattle.cat_model.specs.declared.sort.Sort.{Sort}

pub record World : Type 0 where
  pub bound : Word → Bool
  pub sizes : Sizes
  pub depths : Depths
  pub sorts : Sorting
  pub marks : Marking

abbrev pub with_bound : List Word → (Word → Bool) → Word → Bool
with_bound [] B = B
with_bound (y ∷ ys) B = with_bound ys (λ x. bytes_eq y x || B x)

-- W, and above it values that are bound where names stand for B
abbrev pub values_above : World → List Bound → World → World
values_above B bs W = record {
  bound = with_bound (map (λ b. b.name) bs) W.bound;
  sizes = with_value_sizes bs W.sizes;
  depths = with_value_depths bs W.depths;
  sorts = with_value_sorts B.sorts bs W.sorts;
  marks = with_value_marks bs W.marks;
}

-- W, and above it functions that are bound where names stand for B
abbrev pub functions_above : World → List Defined → World → World
functions_above B ds W = record {
  bound = with_bound (map (λ d. d.name) ds) W.bound;
  sizes = with_function_sizes B.sizes ds W.sizes;
  depths = with_function_depths B.depths ds W.depths;
  sorts = with_function_sorts B.sorts ds W.sorts;
  marks = with_function_marks B.marks ds W.marks;
}

-- W, and above it the names of a recursive group
abbrev pub group_above : List Bound → World → World
group_above bs W = record {
  bound = with_bound (map (λ b. b.name) bs) W.bound;
  sizes = with_value_sizes bs W.sizes;
  depths = with_value_depths bs W.depths;
  sorts = recursive bs W.sorts;
  marks = with_value_marks bs W.marks;
}

abbrev pub past : World → Clause → World
past W (bind ds) = functions_above W (functions_in ds) (values_above W (values_in ds) W)
past W (bind_recursively bs) = group_above bs W
past W (check flag negated kind a x) = W
past W (include x) = W
past W (show es) = W
past W (unshow xs) = W

abbrev pub behind : World → List Clause → World
behind W [] = W
behind W (i ∷ is) = behind (past W i) is

-- where only sets and relations of the execution have names
abbrev pub unbound : World
unbound = record {
  bound = λ x. is_some (named_of x);
  sizes = λ x. just 1;
  depths = λ x. just_depth 0;
  sorts = named_sorts;
  marks = λ x ms. [];
}

-- before any item
abbrev pub first : World
first = functions_above unbound beforehand unbound

-- the names bound in the code stand for what they stand for in W
pub record Fit (ns : List BoundName) (W : World) : Type 0 where
  pub bound : (x : Word) → is_known ns x ≡ W.bound x
  pub sizes : FitSizes ns W.sizes
  pub depths : FitDepths ns W.depths
  pub sorts : FitSorts ns W.sorts
  pub marks : FitMarks ns W.marks

-- what is known of a function says what it makes of its arguments where it is bound
pub record IsSummary (s : Summary) (B : World) (d : Defined) : Type 0 where
  pub sizing : IsSizing s.sizing (λ ns. applied_size B.sizes d.parameters d.value ns ns)
  pub nesting : IsNesting s.nesting (λ ns. applied_depth B.depths d.parameters d.value ns ns)
  pub marked : IsMarked s.marked (applied_marks B.marks d.parameters d.value)
  pub scheme : (ks : List (Option Sort)) → by_scheme s.scheme ks ≡ applied_sort B.sorts d.parameters d.value ks
