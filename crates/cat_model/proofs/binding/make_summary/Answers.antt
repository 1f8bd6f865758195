use Rattle.std.proofs.Common.{◌≡◌, List, Option, subst}
use Rattle.cat_tree.specs.Tree.{Word, term_of}
use Rattle.cat_model.specs.Denials.{applied_marks}
use Rattle.cat_model.specs.Depths.{applied_depth}
use Rattle.cat_model.specs.Marked.{IsMarked}
use Rattle.cat_model.specs.Nesting.{IsNesting}
use Rattle.cat_model.specs.Schemes.{by_scheme}
use Rattle.cat_model.specs.Sizes.{applied_size}
use Rattle.cat_model.specs.Sizing.{IsSizing}
use Rattle.cat_model.specs.Sorts.{applied_sort}
use Rattle.cat_model.specs.declared.sort.Sort.{Sort}
use Rattle.cat_model.proofs.binding.make_summary.Goals as goal

pub returns : goal.returns
returns c = λ B f.
    (let body = term_of c.args.function.now.value in
    let P : List Word → Type 0 = λ ps. IsSizing c.in_ok-sizing.sizing (λ ns. applied_size B.sizes ps body ns ns) in
    let Q : List Word → Type 0 = λ ps. IsNesting c.in_ok-nesting.nesting (λ ns. applied_depth B.depths ps body ns ns) in
    let R : List Word → Type 0 = λ ps. IsMarked c.in_ok-marked.marked (applied_marks B.marks ps body) in
    let T : List Word → Type 0 = λ ps. (ks : List (Option Sort)) → by_scheme c.in_ok-scheme.scheme ks ≡ applied_sort B.sorts ps body ks in
    record {
      sizing = subst P c.deref.ensures.value (c.in_ok-sizing.ensures B.sizes f.sizes);
      nesting = subst Q c.deref-2.ensures.value (c.in_ok-nesting.ensures B.depths f.depths);
      marked = subst R c.deref-3.ensures.value (c.in_ok-marked.ensures B.marks f.marks);
      scheme = subst T c.deref-4.ensures.value (c.in_ok-scheme.ensures B.sorts f.sorts);
    })
