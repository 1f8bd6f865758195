-- The names of sets and relations of an execution that a model can use without binding them.
-- (herd7 manual, the cat language: predefined sets and relations.)
use Rattle.std.specs.Prelude.{List, [], ◌∷◌, Option, Some, codes, find, if◌then◌else◌}
use Rattle.std.specs.Str.{bytes_eq}
use Rattle.events.specs.declared.named.SetName.TheVariants as sets
use Rattle.events.specs.declared.named.RelName.TheVariants as rels
use Rattle.cat_tree.specs.Tree.{Word}
use Rattle.cat_model.specs.declared.named.Named.{Named}
use Rattle.cat_model.specs.declared.named.Named.TheVariants.{Set, Rel}
use Rattle.cat_model.specs.declared.sort.Sort.{Sort}
use Rattle.cat_model.specs.declared.sort.Sort.TheVariants as sorts

-- how a set or a relation is written
unfoldable pub spelling_of : Named → Word
spelling_of (Set sets.Writes) = codes "W"
spelling_of (Set sets.Reads) = codes "R"
spelling_of (Set sets.Fences) = codes "F"
spelling_of (Set sets.Memory) = codes "M"
spelling_of (Set sets.InitialWrites) = codes "IW"
spelling_of (Set sets.Atomic) = codes "A"
spelling_of (Set sets.Plain) = codes "NA"
spelling_of (Set sets.Relaxed) = codes "RLX"
spelling_of (Set sets.Acquire) = codes "ACQ"
spelling_of (Set sets.Release) = codes "REL"
spelling_of (Set sets.AcquireRelease) = codes "ACQ_REL"
spelling_of (Set sets.SeqCst) = codes "SC"
spelling_of (Set sets.Exchanges) = codes "RMW"
spelling_of (Rel rels.Po) = codes "po"
spelling_of (Rel rels.Int) = codes "int"
spelling_of (Rel rels.Ext) = codes "ext"
spelling_of (Rel rels.Loc) = codes "loc"
spelling_of (Rel rels.PoLoc) = codes "po-loc"
spelling_of (Rel rels.Rf) = codes "rf"
spelling_of (Rel rels.Co) = codes "co"
spelling_of (Rel rels.Fr) = codes "fr"
spelling_of (Rel rels.Rfi) = codes "rfi"
spelling_of (Rel rels.Coi) = codes "coi"
spelling_of (Rel rels.Fri) = codes "fri"
spelling_of (Rel rels.Rfe) = codes "rfe"
spelling_of (Rel rels.Coe) = codes "coe"
spelling_of (Rel rels.Fre) = codes "fre"
spelling_of (Rel rels.Rmw) = codes "rmw"
spelling_of (Rel rels.Data) = codes "data"
spelling_of (Rel rels.Ctrl) = codes "ctrl"
spelling_of (Rel rels.Addr) = codes "addr"
spelling_of (Rel rels.Id) = codes "id"

abbrev pub all_named : List Named
all_named =
    Set sets.Writes ∷ Set sets.Reads ∷ Set sets.Fences ∷ Set sets.Memory ∷ Set sets.InitialWrites ∷ Set sets.Atomic ∷ Set sets.Plain ∷
    Set sets.Relaxed ∷ Set sets.Acquire ∷ Set sets.Release ∷ Set sets.AcquireRelease ∷ Set sets.SeqCst ∷ Set sets.Exchanges ∷
    Rel rels.Po ∷ Rel rels.Int ∷ Rel rels.Ext ∷ Rel rels.Loc ∷ Rel rels.PoLoc ∷ Rel rels.Rf ∷ Rel rels.Co ∷ Rel rels.Fr ∷
    Rel rels.Rfi ∷ Rel rels.Coi ∷ Rel rels.Fri ∷ Rel rels.Rfe ∷ Rel rels.Coe ∷ Rel rels.Fre ∷
    Rel rels.Rmw ∷ Rel rels.Data ∷ Rel rels.Ctrl ∷ Rel rels.Addr ∷ Rel rels.Id ∷ []

-- what is written so
unfoldable pub written : Word → Option Named
written x = find (λ n. bytes_eq (spelling_of n) x) all_named

-- what a name stands for beforehand; I is a second name of the initial writes
unfoldable pub named_of : Word → Option Named
named_of x = if bytes_eq x (codes "I") then Some (Set sets.InitialWrites) else written x

-- whether it is a set or a relation
abbrev pub sort_of_named : Named → Sort
sort_of_named (Set n) = sorts.Set
sort_of_named (Rel n) = sorts.Relation
