use Rattle.std.proofs.Common.{◌≡◌, ◌∙◌, ap, refl, List, subst, sym, ℕ}
use Rattle.std.specs.Prelude.{filter}
use Rattle.events.specs.declared.event.EventId.{EventId}
use Rattle.events.specs.declared.named.RelName.TheVariants as names
use Rattle.events.specs.Executions.{is_read}
use Rattle.events.specs.Named.{read_names, access_of}
use Rattle.events.specs.Structures.{structure_of, bare}
use Rattle.events.proofs.Structures.{moved_names, moved_reads, moved_firsts, moved_few, moved, same_structure}
use Rattle.events.specs.Rows.{AreFirsts}
use Rattle.events.proofs.view.structure.EventStructure.of.Goals as goal

pub new-numbered-requires-clause-reads : goal.new-numbered-requires-clause-reads
unfolding read_names
new-numbered-requires-clause-reads c =
    c.deref-3.ensures.value ∙ c.in_ok-reads.ensures
    ∙ ap (λ (es : List EventId). filter (λ e. is_read (access_of c.args.graph.now e)) es) (c.deref.ensures.value ∙ c.in_ok-events.ensures.names)

pub invariant_of-result : goal.invariant_of-result
unfolding read_names
invariant_of-result c =
    let g = c.args.graph.now in
    let h = bare (record { init = c.in_ok-from_slice.field-0.items; runs = c.in_ok-copy_runs.field-0.items }) in
    let m = c.new-numbered.result in
    let e : structure_of g ≡ structure_of h = same_structure g _ _ (c.in_ok-from_slice.ensures.items ∙ c.init.ensures) (c.in_ok-copy_runs.ensures ∙ c.runs.ensures.value) in
    let d : structure_of m ≡ structure_of h = ap structure_of c.new-numbered.ensures ∙ e in
    record {
      events = moved_names g h _ e c.in_ok-events.ensures.names;
      reads = moved_reads g h _ e (c.in_ok-reads.ensures ∙ ap (λ (es : List EventId). filter (λ e. is_read (access_of g e)) es) (c.deref.ensures.value ∙ c.in_ok-events.ensures.names));
      firsts = moved_firsts g h _ e c.in_ok-firsts.ensures;
      few = moved_few g h e c.in_ok-events.ensures.few;
      po = moved m h names.Po _ refl d c.threads_into.ensures.po;
      int = moved m h names.Int _ refl d c.threads_into.ensures.int;
      loc = moved m h names.Loc _ refl d c.locations_into.ensures;
    }

pub new-numbered-requires-clause-firsts : goal.new-numbered-requires-clause-firsts
new-numbered-requires-clause-firsts c = let P : List ℕ → Type 0 = λ fs. AreFirsts c.args.graph.now fs in subst P (sym c.deref-4.ensures.value) c.in_ok-firsts.ensures

pub new-numbered-requires-clause-few : goal.new-numbered-requires-clause-few
new-numbered-requires-clause-few c = c.in_ok-events.ensures.few
