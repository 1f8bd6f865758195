-- What clap reads for an option with a range after a parse that succeeds: a text that reads as a number in the range.
use Rattle.std.proofs.Common.{◌≡◌, ◌∙◌, ◌<◌, ◌≤◌, ℕ, Bool, true, false, zero, suc, List, [], ◌∷◌, Option, Some, None, refl, sym, ap, subst, inl, inr, arith, length, map, codes, slice_index, ◌^◌, ◌⊎◌}
use Rattle.std.specs.List.{All, find, list_all, slice_index_or}
use Rattle.std.specs.Borrow.{Bor}
use Rattle.std.specs.Str.{bytes_eq}
use Rattle.std.specs.Prelude.{Result, option_and_then, option_map, pos, slice_get}
use Rattle.std.specs.Str.Parse.{ExplainsUnsignedError, HasUnsignedDigitsIfOk, ParsesUnsigned}
use Rattle.std.specs.declared.num.ParseIntError.{ParseIntError}
use Rattle.std.proofs.lemmas.Slice.Eq.{bytes_eq-Decides}
use Rattle.std.proofs.lemmas.List.Elements.{All-get_or}
use Rattle.clap.specs.Built.{IsAuto, IsParsedFrom, SameRules}
use Rattle.clap.specs.Facts.{Entry, EntryPasses, HasIn, PassesArg, WantsDefault, args_of, groups_of, least_values, parser_of, parser_of_value, unwrap_or_range}
use Rattle.clap.specs.Lexer.{without_minus}
use Rattle.clap.specs.Matches.{ReadsOne, found_of, matched_of, one_text}
use Rattle.clap.specs.Simple.{HasMatchesOf, IsSimple, app_of, is_ready, is_ready_leaf}
use Rattle.clap.specs.Texts.{items_of}
use Rattle.clap.specs.Values.{Accepts, IsSignedIn, read_as, reading_of}
use Rattle.clap.specs.Walk.{Text, one_of, rule_of}
use Rattle.clap.specs.declared.builder.action.ArgAction.TheVariants.{Count, Set}
use Rattle.clap.specs.declared.builder.arg.Arg.{Arg}
use Rattle.clap.specs.declared.builder.command.Command.{Command}
use Rattle.clap.specs.declared.builder.value_parser.Reading.{Reading}
use Rattle.clap.specs.declared.builder.value_parser.Reading.TheVariants.{WithoutMinus}
use Rattle.clap.specs.declared.builder.value_parser.ValueParser.{ValueParser}
use Rattle.clap.specs.declared.builder.value_parser.ValueParser.TheVariants.{Signed}
use Rattle.clap.specs.declared.parser.matches.ArgMatches.{ArgMatches}
use Rattle.clap.specs.declared.parser.matches.MatchedArg.{MatchedArg}
use Rattle.clap.proofs.CallerLemmas.{default_present, entry_by_id, same_rules_by_id}
use Rattle.clap.proofs.CallerReads.{signed_reads}
use Rattle.clap.proofs.WalkLemmas.{one_text-rows}
use Rattle.clap.proofs.SimpleLemmas.{ready_simple, simple_groups}
use Rattle.program.proofs.Names.{unlike}
use Rattle.program.specs.Words.{SaysNumber, alone, bench, journal, text_for, workers}

-- ---- the three arguments of the command

record AreThree {X Y : Type 0} (f : X → Y) (j k l : Y) (xs : List X) : Type 0 where
  first : X
  second : X
  third : X
  list : xs ≡ first ∷ second ∷ third ∷ []
  first_is : f first ≡ j
  second_is : f second ≡ k
  third_is : f third ≡ l

are_three : {X Y : Type 0} (f : X → Y) (j k l : Y) (xs : List X) → map f xs ≡ j ∷ k ∷ l ∷ [] → AreThree f j k l xs
are_three f j k l [] e = cc
are_three f j k l (a ∷ []) e = cc
are_three f j k l (a ∷ b ∷ []) e = cc
are_three f j k l (a ∷ b ∷ c ∷ []) e = record {
  first = a;
  second = b;
  third = c;
  list = refl;
  first_is = ap (λ l. slice_index_or l 0 j) e;
  second_is = ap (λ l. slice_index_or l 1 k) e;
  third_is = ap (λ m. slice_index_or m 2 l) e;
}
are_three f j k l (a ∷ b ∷ c ∷ d ∷ rest) e = cc

nonempty : {X Y : Type 0} (f : X → Y) (xs : List X) (y : Y) → map f xs ≡ y ∷ [] → 0 < length xs
nonempty f [] y e = cc
nonempty f (x ∷ xs) y e = omega arith

found_in : (xs : List Entry) (i : ℕ) (id : Text) → i < length xs → ((d : Entry) → bytes_eq (slice_index_or xs i d).0.now id ≡ true)
    → option_map (λ e. e.1) (find (λ e. bytes_eq e.0.now id) xs) ≡ None → ⊥
found_in [] i id lt at none = absurd (omega arith)
found_in (x ∷ xs) zero id lt at none =
    let bad : Some x.1 ≡ None = rw (at x) at none in
    cc
found_in (x ∷ xs) (suc i) id lt at none = go (bytes_eq x.0.now id) refl (found_in xs i id (omega arith) at)
  where
    go : (b : Bool) → bytes_eq x.0.now id ≡ b → (option_map (λ e. e.1) (find (λ e. bytes_eq e.0.now id) xs) ≡ None → ⊥) → ⊥
    go true is rest =
        let bad : Some x.1 ≡ None = rw is at none in
        cc
    go false is rest = rest (rw is at none)

-- a command of which clap reads the words as `bench` says
record IsBench (c : Command) : Type 0 where
  args : AreThree rule_of journal workers alone (args_of c)
  simple : IsSimple c
  no_groups : All (λ a. a.groups.items ≡ []) (args_of c)

is_bench : (c : Command) → app_of c ≡ bench → IsBench c
is_bench c shape = record {
  args = are_three rule_of journal workers alone (args_of c) (ap (λ a. a.top.rules) shape);
  simple = ready_simple c (ap (λ a. is_ready a.top) shape ∙ refl) (ap (λ a. list_all is_ready_leaf a.subs) shape ∙ refl);
  no_groups = simple_groups c (ap (λ a. list_all (λ r. r.is_simple) a.top.rules) shape ∙ refl);
}

-- ids with other first bytes
abbrev IsUnlike : Text → Text → Type 0
IsUnlike t u = (slice_index t 0 < slice_index u 0) ⊎ (slice_index u 0 < slice_index t 0)

-- the i-th argument is an option of this id, whose value is a number from low to high
record IsOption (c : Command) (i : ℕ) (arg : Arg) (id : Text) (low high : ℕ) : Type 0 where
  elem : (d : Arg) → slice_index_or (args_of c) i d ≡ arg
  in_args : i < length (args_of c)
  arg_id : arg.id.now ≡ id
  only : (j : ℕ) (e : Arg) → j < length (args_of c) → (slice_index_or (args_of c) j e).id.now ≡ id → j ≡ i
  not_help : IsUnlike (codes "help") id
  not_version : IsUnlike id (codes "version")
  some_id : 0 < length id
  parser : (rule_of arg).parser ≡ Some (Signed (pos low) (pos high))
  range : arg.num_vals ≡ None
  action : arg.action ≡ Some Set
  default : (t : Text) × (map (λ s. s.now) (items_of arg.default_vals) ≡ t ∷ [])

module _ (c : Command) (m : ArgMatches) (p : IsParsedFrom c m) (is : IsBench c) (i : ℕ) (arg : Arg) (id : Text) (low high : ℕ) (option : IsOption c i arg id low high) where
  -- no other argument has its id
  only_one : (j : ℕ) (e : Arg) → j < length (args_of c) → bytes_eq (slice_index_or (args_of c) j e).id.now arg.id.now ≡ true → j ≡ i
  only_one j e lt same = option.only j e lt ((bytes_eq-Decides _ arg.id.now).0 same ∙ option.arg_id)

  not_added : IsAuto arg → ⊥
  not_added (inl h) = unlike (codes "help") id option.not_help (sym h ∙ option.arg_id)
  not_added (inr h) = unlike id (codes "version") option.not_version (sym option.arg_id ∙ h)

  -- the argument of this id in the command that was built has its rules
  same_rules : (j : ℕ) (x : Arg) → j < length (args_of p.built) → slice_index_or (args_of p.built) j x ≡ x → bytes_eq x.id.now id ≡ true → SameRules arg x
  same_rules j x lt at same =
      let first = option.elem arg in
      subst (λ (a : Arg). SameRules a x) first
      (same_rules_by_id c m p i arg option.in_args (λ k e low h. only_one k e low (subst (λ (a : Arg). bytes_eq (slice_index_or (args_of c) k e).id.now a.id.now ≡ true) first h))
      (λ auto. not_added (subst IsAuto first auto)) j x lt at
      (subst (λ (a : Arg). bytes_eq x.id.now a.id.now ≡ true) (sym first) (rw option.arg_id same)))

  parsed_by : (x : Arg) → SameRules arg x → parser_of x ≡ Signed (pos low) (pos high)
  parsed_by x same = ap parser_of_value (same.parser (Signed (pos low) (pos high)) option.parser)

  read_so : (r : Reading) → (j : ℕ) (x : Arg) → SameRules arg x → reading_of (parser_of x) ≡ r → r ≡ WithoutMinus
  read_so r j x same e = sym e ∙ ap reading_of (parsed_by x same)

  passes_so : (t : Text) → PassesArg p.built id t → IsSignedIn (pos low) (pos high) t
  passes_so t any =
      let same = same_rules any.0 any.1 any.2 any.3 any.4.0 in
      subst (λ (q : ValueParser). Accepts any.1.ignore_case q t) (parsed_by any.1 same) any.4.1

  has_values : (x : Arg) → SameRules arg x → 1 ≤ least_values x
  has_values x same =
      same.least option.action (subst (λ o. 1 ≤ (unwrap_or_range o).start_inclusive) (sym option.range) (omega arith))

  wants : WantsDefault arg
  wants = (
    subst (λ (a : Arg). a.default_vals_ifs.items ≡ []) (option.elem arg) (is.simple.args i arg option.in_args).default_ifs,
    nonempty (λ s. s.now) (items_of arg.default_vals) option.default.0 option.default.1,
  )

  has_entry : HasIn (found_of m).entries.items id
  has_entry = subst (HasIn (found_of m).entries.items) (ap (λ (a : Arg). a.id.now) (option.elem arg) ∙ option.arg_id)
      (default_present c m p is.simple.globals i arg option.in_args (subst WantsDefault (sym (option.elem arg)) wants))

  first_read : (how : Reading) (vals : List (Bor Text)) → how ≡ WithoutMinus → 0 < length vals → All (λ v. PassesArg p.built id v.now) vals
      → (t : Text) × (option_map (λ s. read_as how s.now) (slice_get vals 0) ≡ Some (without_minus t)) × IsSignedIn (pos low) (pos high) t
  first_read how [] e some all = absurd (omega arith)
  first_read how (v ∷ vs) e some all = (
    v.now,
    ap (λ h. Some (read_as h v.now)) e,
    passes_so v.now (All-get_or (λ w. PassesArg p.built id w.now) (v ∷ vs) 0 v (omega arith) all),
  )

  entry_read : (e : Entry) → e.0.now ≡ id → EntryPasses p.built e
      → (t : Text) × (option_map (λ s. read_as e.1.reading s.now) (slice_get e.1.vals.items 0) ≡ Some (without_minus t)) × IsSignedIn (pos low) (pos high) t
  entry_read e key pass =
      let no_groups : groups_of p.built ≡ [] = (p.from.same_groups is.no_groups).1 ∙ is.simple.groups in
      let no_group : e.1.is_group ≡ true → ⊥ = λ g. elim (pass.3 g) [
        | inl empty ↦
            let none : length id ≡ 0 = ap length (sym key ∙ empty) in
            let some = option.some_id in
            absurd (omega arith)
        | inr lots ↦
            let none : length (groups_of p.built) ≡ 0 = ap length no_groups in
            absurd (omega arith)
      ] in
      let how : e.1.reading ≡ WithoutMinus = elim pass.4 [
        | inl g ↦ absurd (no_group g)
        | inr any ↦ read_so e.1.reading any.0 any.1 (same_rules any.0 any.1 any.2 any.3 (subst (λ t. bytes_eq any.1.id.now t ≡ true) key any.4.0)) any.4.1
      ] in
      let all : All (λ v. PassesArg p.built id v.now) e.1.vals.items = elim pass.0 [
        | inl g ↦ absurd (no_group g)
        | inr vals ↦ subst (λ t. All (λ v. PassesArg p.built t v.now) e.1.vals.items) key vals
      ] in
      let some : 0 < length e.1.vals.items = elim pass.1 [
        | inl g ↦ absurd (no_group g.0)
        | inr (inl lt) ↦ lt
        | inr (inr (inl count)) ↦
            let any = count.1 in
            let same = same_rules any.0 any.1 any.2 any.3 (subst (λ t. bytes_eq any.1.id.now t ≡ true) key any.4.0) in
            let set : any.1.action ≡ Some Set = same.action Set option.action in
            let bad : Set ≡ Count = rw set at any.4.1 in
            cc
        | inr (inr (inr any)) ↦
            let same = same_rules any.0 any.1 any.2 any.3 (subst (λ t. bytes_eq any.1.id.now t ≡ true) key any.4.0) in
            elim any.4.1 [
              | inl none ↦
                  let one = has_values any.1 same in
                  absurd (omega arith)
              | inr splits ↦
                  let plain : any.1.val_delim ≡ None = same.val_delim ∙ (subst (λ (a : Arg). a.val_delim ≡ None) (option.elem arg) (is.simple.args i arg option.in_args).delimiter) in
                  let bad : false ≡ true = rw plain at splits in
                  cc
            ]
      ] in
      first_read e.1.reading e.1.vals.items how some all

  text_read : (x : Option MatchedArg) → matched_of (found_of m) id ≡ x
      → (t : Text) × (one_text (found_of m) id ≡ Some (without_minus t)) × IsSignedIn (pos low) (pos high) t
  text_read None none = absurd (found_in (found_of m).entries.items has_entry.0 id has_entry.1 has_entry.2 none)
  text_read (Some x) found =
      let parsed = p.parsed (p.from.globals ∙ is.simple.globals) in
      let got = entry_by_id (EntryPasses p.built) (found_of m).entries.items id x parsed.values found in
      let read = entry_read got.0 ((bytes_eq-Decides got.0.0.now id).0 got.2) got.3 in
      let here : matched_of (found_of m) id ≡ Some got.0.1 = found ∙ ap Some (sym got.1) in
      (read.0, ap (option_and_then (λ a. option_map (λ s. read_as a.reading s.now) (slice_get a.vals.items 0))) here ∙ read.1, read.2)

-- ---- the two options

module _ (c : Command) (is : IsBench c) where
  three_args : length (args_of c) ≡ 3
  three_args = ap length is.args.list

  journal_at : (d : Arg) → slice_index_or (args_of c) 0 d ≡ is.args.first
  journal_at d = ap (λ l. slice_index_or l 0 d) is.args.list

  workers_at : (d : Arg) → slice_index_or (args_of c) 1 d ≡ is.args.second
  workers_at d = ap (λ l. slice_index_or l 1 d) is.args.list

  alone_at : (d : Arg) → slice_index_or (args_of c) 2 d ≡ is.args.third
  alone_at d = ap (λ l. slice_index_or l 2 d) is.args.list

  journal_id : (d : Arg) → (slice_index_or (args_of c) 0 d).id.now ≡ codes "journal"
  journal_id d = ap (λ (a : Arg). a.id.now) (journal_at d) ∙ ap (λ r. r.id) is.args.first_is

  workers_id : (d : Arg) → (slice_index_or (args_of c) 1 d).id.now ≡ codes "workers"
  workers_id d = ap (λ (a : Arg). a.id.now) (workers_at d) ∙ ap (λ r. r.id) is.args.second_is

  alone_id : (d : Arg) → (slice_index_or (args_of c) 2 d).id.now ≡ codes "alone"
  alone_id d = ap (λ (a : Arg). a.id.now) (alone_at d) ∙ ap (λ r. r.id) is.args.third_is

  no_fourth : (j : ℕ) → 3 ≤ j → j < length (args_of c) → ⊥
  no_fourth j most lt =
      let three = three_args in
      omega arith

  only_journal : (j : ℕ) (e : Arg) → j < length (args_of c) → (slice_index_or (args_of c) j e).id.now ≡ codes "journal" → j ≡ 0
  only_journal zero e lt same = refl
  only_journal (suc zero) e lt same = absurd (unlike (codes "workers") (codes "journal") (inr (omega arith)) (sym (workers_id e) ∙ same))
  only_journal (suc (suc zero)) e lt same = absurd (unlike (codes "alone") (codes "journal") (inl (omega arith)) (sym (alone_id e) ∙ same))
  only_journal (suc (suc (suc j))) e lt same = absurd (no_fourth (suc (suc (suc j))) (omega arith) lt)

  only_workers : (j : ℕ) (e : Arg) → j < length (args_of c) → (slice_index_or (args_of c) j e).id.now ≡ codes "workers" → j ≡ 1
  only_workers zero e lt same = absurd (unlike (codes "journal") (codes "workers") (inl (omega arith)) (sym (journal_id e) ∙ same))
  only_workers (suc zero) e lt same = refl
  only_workers (suc (suc zero)) e lt same = absurd (unlike (codes "alone") (codes "workers") (inl (omega arith)) (sym (alone_id e) ∙ same))
  only_workers (suc (suc (suc j))) e lt same = absurd (no_fourth (suc (suc (suc j))) (omega arith) lt)

  journal_is : IsOption c 0 is.args.first (codes "journal") 1 1000000
  journal_is = record {
    elem = journal_at;
    in_args = let three = three_args in omega arith;
    arg_id = ap (λ r. r.id) is.args.first_is;
    only = only_journal;
    not_help = inl (omega arith);
    not_version = inl (omega arith);
    some_id = omega arith;
    parser = ap (λ r. r.parser) is.args.first_is;
    range = ap (λ r. r.range) is.args.first_is;
    action = ap (λ r. r.action) is.args.first_is;
    default = (codes "100000", ap (λ r. r.defaults) is.args.first_is);
  }

  workers_is : IsOption c 1 is.args.second (codes "workers") 0 8
  workers_is = record {
    elem = workers_at;
    in_args = let three = three_args in omega arith;
    arg_id = ap (λ r. r.id) is.args.second_is;
    only = only_workers;
    not_help = inl (omega arith);
    not_version = inr (omega arith);
    some_id = omega arith;
    parser = ap (λ r. r.parser) is.args.second_is;
    range = ap (λ r. r.range) is.args.second_is;
    action = ap (λ r. r.action) is.args.second_is;
    default = (codes "0", ap (λ r. r.defaults) is.args.second_is);
  }

-- the text that a getter reads is that of the rows that the words make
pub text_is : (c : Command) (m : ArgMatches) (words : List Text) (name : Text) → app_of c ≡ bench → HasMatchesOf (app_of c) words m
    → one_text (found_of m) name ≡ text_for name words
text_is c m words name shape has =
    let rows = (subst (λ a. HasMatchesOf a words m) shape has refl).0 in
    one_text-rows (found_of m) name ∙ ap (one_of name) rows

-- how std reads a number of so many bits
abbrev pub ReadsNumber : ℕ → Text → Result ℕ ParseIntError → Type 0
ReadsNumber bits t r = ParsesUnsigned bits 10 t r × ExplainsUnsignedError 10 t r × HasUnsignedDigitsIfOk t r

-- what `get_one` gives for an option
pub record Gives (bits : ℕ) (name : Text) (low high : ℕ) (words : List Text) (r : Option ℕ) : Type 0 where
  pub n : ℕ
  pub is : r ≡ Some n
  pub least : low ≤ n
  pub most : n ≤ high
  pub says : SaysNumber bits name words n

option_number : (c : Command) (m : ArgMatches) (words : List Text) (r : Option ℕ) (bits i : ℕ) (arg : Arg) (id : Text) (low high : ℕ) → app_of c ≡ bench → IsParsedFrom c m
    → HasMatchesOf (app_of c) words m → high < 2 ^ bits → IsBench c → IsOption c i arg id low high
    → ((t : Text) → one_text (found_of m) id ≡ Some t → ReadsOne (ReadsNumber bits) t r) → Gives bits id low high words r
option_number c m words r bits i arg id low high shape p has fits is option reads =
    let text = text_read c m p is i arg id low high option (matched_of (found_of m) id) refl in
    let read = reads (without_minus text.0) text.1 in
    let number = signed_reads ParseIntError (ReadsNumber bits) bits low high text.0 r read (λ t x gives. gives.0) fits text.2 in
    let says : ReadsOne (ReadsNumber bits) (without_minus text.0) (Some number.0) = subst (ReadsOne (ReadsNumber bits) (without_minus text.0)) number.1 read in
    record {
      n = number.0;
      is = number.1;
      least = number.2;
      most = number.3;
      says = (without_minus text.0, sym (text_is c m words id shape has) ∙ text.1, says.0);
    }

-- what `get_one` gives for `--journal`
pub journal_number : (c : Command) (m : ArgMatches) (words : List Text) (r : Option ℕ) → app_of c ≡ bench → IsParsedFrom c m → HasMatchesOf (app_of c) words m
    → ((t : Text) → one_text (found_of m) (codes "journal") ≡ Some t → ReadsOne (ReadsNumber 32) t r) → Gives 32 (codes "journal") 1 1000000 words r
journal_number c m words r shape p has =
    let is = is_bench c shape in
    option_number c m words r 32 0 is.args.first (codes "journal") 1 1000000 shape p has (omega arith) is (journal_is c is)

-- what it gives for `--workers`
pub workers_number : (c : Command) (m : ArgMatches) (words : List Text) (r : Option ℕ) → app_of c ≡ bench → IsParsedFrom c m → HasMatchesOf (app_of c) words m
    → ((t : Text) → one_text (found_of m) (codes "workers") ≡ Some t → ReadsOne (ReadsNumber 8) t r) → Gives 8 (codes "workers") 0 8 words r
workers_number c m words r shape p has =
    let is = is_bench c shape in
    option_number c m words r 8 1 is.args.second (codes "workers") 0 8 shape p has (omega arith) is (workers_is c is)
