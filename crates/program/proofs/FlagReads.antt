-- Whatever the words are, clap reads `true` or `false` for `--alone`: no use of a flag has a value of its own.
use Rattle.std.proofs.Common.{◌≡◌, ◌⊎◌, ◌∙◌, ◌++◌, ℕ, Bool, cond, true, false, zero, suc, List, [], ◌∷◌, Option, Some, None, refl, sym, subst, inl, inr, arith, length, codes}
use Rattle.std.specs.List.{find, fold}
use Rattle.std.specs.Str.{bytes_eq, chars}
use Rattle.std.specs.Prelude.{⊤, ◌&&◌, is_some, not, encode_utf8, drop, option_map, slice_get, unwrap_or}
use Rattle.std.proofs.lemmas.Slice.Eq.{bytes_eq-Decides}
use Rattle.clap.specs.Lexer.{long_of, short_of}
use Rattle.clap.specs.Simple.{argument_words, built, new_rule}
use Rattle.clap.specs.Values.{read_as}
use Rattle.clap.specs.Walk.{Held, Outcome, Row, Rule, Step, Text, Waiting, Walk, after_flag, after_step, arg_by_id, arg_by_long, arg_by_short, at_row, attached_value, bundle_met, bundle_step, done, finished, has_long, has_row, has_short, idle, long_met, long_or_other, more_values, next, nothing_held, one_of, option, plain, plain_word, positional, pushed, reacted, refused, row_text, settled, settled_rows, short_met, short_or_plain, started, subcommand, subcommand_met, subcommand_or_other, trailing, used, used_by_id, value, waits, walk, walk_from, walked, walked_from, with_default, with_values, without, word_met}
use Rattle.clap.specs.declared.builder.value_parser.Reading.{Reading}
use Rattle.clap.specs.declared.builder.value_parser.Reading.TheVariants.{AsWritten, WithoutMinus}
use Rattle.clap.specs.declared.parser.matches.ValueSource.{ValueSource}
use Rattle.clap.specs.declared.parser.matches.ValueSource.TheVariants.{DefaultValue, CommandLine}
use Rattle.program.proofs.Names.{unlike}
use Rattle.program.specs.Words.{bench, text_for}

-- the arguments of the command once it is built: the three, and the flag `--help`
abbrev rules : List Rule
rules = (built bench).top.rules

abbrev the_journal : Rule
the_journal = unwrap_or (slice_get rules 0) (new_rule [])

abbrev the_workers : Rule
the_workers = unwrap_or (slice_get rules 1) (new_rule [])

abbrev the_alone : Rule
the_alone = unwrap_or (slice_get rules 2) (new_rule [])

abbrev the_help : Rule
the_help = unwrap_or (slice_get rules 3) (new_rule [])

-- what a search among them finds
data IsOurs : Option Rule → Type 0 where
  no_rule : IsOurs None
  journal_rule : IsOurs (Some the_journal)
  workers_rule : IsOurs (Some the_workers)
  alone_rule : IsOurs (Some the_alone)
  help_rule : IsOurs (Some the_help)

found_ours : (p : Rule → Bool) → IsOurs (find p rules)
found_ours p = go (p the_journal) (p the_workers) (p the_alone) (p the_help)
  where
    go : (a w b c : Bool) → IsOurs (cond a (Some the_journal) (cond w (Some the_workers) (cond b (Some the_alone) (cond c (Some the_help) None))))
    go true w b c = journal_rule
    go false true b c = workers_rule
    go false false true c = alone_rule
    go false false false true = help_rule
    go false false false false = no_rule

-- the id of an option
abbrev IsOption : Text → Type 0
IsOption id = (id ≡ codes "journal") ⊎ (id ≡ codes "workers")

-- ---- the rows

-- a row of the flag says `true`
abbrev IsGoodRow : Row → Type 0
IsGoodRow r = bytes_eq r.id (codes "alone") ≡ true → row_text r ≡ Some (codes "true")

abbrev GoodRows : List Row → Type 0
GoodRows [] = ⊤
GoodRows (r ∷ rs) = IsGoodRow r × GoodRows rs

good-append : (xs ys : List Row) → GoodRows xs → GoodRows ys → GoodRows (xs ++ ys)
good-append [] ys a b = b
good-append (x ∷ xs) ys a b = (a.0, good-append xs ys a.1 b)

good-at_row : (id : Text) (change : Row → List Row) (missing rows : List Row) → ((r : Row) → bytes_eq r.id id ≡ true → IsGoodRow r → GoodRows (change r))
    → GoodRows missing → GoodRows rows → GoodRows (at_row id change missing rows)
good-at_row id change missing [] changed new rows = new
good-at_row id change missing (r ∷ rs) changed new rows = go (bytes_eq r.id id) refl (good-at_row id change missing rs changed new rows.1)
  where
    go : (b : Bool) → bytes_eq r.id id ≡ b → GoodRows (at_row id change missing rs) → GoodRows (cond b (change r ++ rs) (r ∷ at_row id change missing rs))
    go true e rest = good-append (change r) rs (changed r e rows.0) rows.1
    go false e rest = (rows.0, rest)

good-without : (id : Text) (rows : List Row) → GoodRows rows → GoodRows (without id rows)
good-without id rows good = good-at_row id (λ _. []) [] rows (λ r same h. tt) tt good

-- an option is not the flag
option_not_alone : (name : Text) → IsOption name → name ≡ codes "alone" → ⊥
option_not_alone name (inl e) same = unlike (codes "journal") (codes "alone") (inr (omega arith)) (sym e ∙ same)
option_not_alone name (inr e) same = unlike (codes "workers") (codes "alone") (inr (omega arith)) (sym e ∙ same)

-- a row of an option is none of the flag
not_alone : (id name : Text) → IsOption name → bytes_eq id name ≡ true → bytes_eq id (codes "alone") ≡ true → ⊥
not_alone id name o a b = option_not_alone name o (sym ((bytes_eq-Decides id name).0 a) ∙ (bytes_eq-Decides id (codes "alone")).0 b)

abbrev new_row : Text → Reading → ValueSource → List Text → Row
new_row id how s values = record { id = id; values = values; count = None; source = Some s; reading = how }

good-values : (name : Text) → IsOption name → (how : Reading) (s : ValueSource) (values : List Text) (rows : List Row) → GoodRows rows
    → GoodRows (with_values name how s values rows)
good-values name o how s values rows good =
    good-at_row name (more_values s values) (new_row name how s values ∷ []) rows (λ r same h. ((λ alone. absurd (not_alone r.id name o same alone)), tt))
    ((λ alone. absurd (option_not_alone name o ((bytes_eq-Decides name (codes "alone")).0 alone))), tt) good

good-journal : (values : List Text) (rows : List Row) → GoodRows rows → GoodRows (used the_journal values rows)
good-journal values rows good = good-values (codes "journal") (inl refl) _ _ _ (without (codes "journal") rows) (good-without (codes "journal") rows good)

good-workers : (values : List Text) (rows : List Row) → GoodRows rows → GoodRows (used the_workers values rows)
good-workers values rows good = good-values (codes "workers") (inr refl) _ _ _ (without (codes "workers") rows) (good-without (codes "workers") rows good)

-- a first value stays the first
first_stays : (how : Reading) (values more : List Text) (t : Text) → option_map (read_as how) (slice_get values 0) ≡ Some t
    → option_map (read_as how) (slice_get (values ++ more) 0) ≡ Some t
first_stays how [] more t e =
    let bad : None ≡ Some t = e in
    cc
first_stays how (v ∷ vs) more t e = e

good-alone : (rows : List Row) → GoodRows rows → GoodRows (used the_alone [] rows)
good-alone rows good =
    good-at_row (codes "alone") (more_values CommandLine (codes "true" ∷ [])) (new_row (codes "alone") AsWritten CommandLine (codes "true" ∷ []) ∷ []) (without (codes "alone") rows) (λ r same h. ((λ alone. first_stays r.reading r.values _ _ (h alone)), tt))
    ((λ alone. refl), tt) (good-without (codes "alone") rows good)

-- ---- what is held

abbrev IsPending : Option (Text × List Text) → Type 0
IsPending None = ⊤
IsPending (Some p) = IsOption p.0

record IsGood (h : Held) : Type 0 where
  rows : GoodRows h.rows
  pending : IsPending h.pending

abbrev IsGoodWait : Waiting → Type 0
IsGoodWait (option id) = IsOption id
IsGoodWait _ = ⊤

abbrev IsGoodOutcome : Outcome → Type 0
IsGoodOutcome (waits id) = IsOption id
IsGoodOutcome _ = ⊤

abbrev IsGoodStep : Step → Type 0
IsGoodStep (next w) = IsGoodWait w
IsGoodStep _ = ⊤

abbrev GoodMeeting : Held × Outcome → Type 0
GoodMeeting p = IsGood p.0 × IsGoodOutcome p.1

abbrev GoodTurn : Held × Step → Type 0
GoodTurn p = IsGood p.0 × IsGoodStep p.1

settled-good_rows : (p : Option (Text × List Text)) (rows : List Row) → IsPending p → GoodRows rows → GoodRows (settled_rows rules p rows)
settled-good_rows None rows e good = good
settled-good_rows (Some p) rows (inl e) good =
    subst (λ id. GoodRows (used_by_id (arg_by_id rules id) p.1 rows)) (sym e) (good-journal p.1 rows good)
settled-good_rows (Some p) rows (inr e) good =
    subst (λ id. GoodRows (used_by_id (arg_by_id rules id) p.1 rows)) (sym e) (good-workers p.1 rows good)

settled-good : (h : Held) → IsGood h → IsGood (settled rules h)
settled-good h good = record { rows = settled-good_rows h.pending h.rows good.pending good.rows; pending = tt }

journal-good : (v : Option Text) (h : Held) → IsGood h → GoodMeeting (long_met rules (Some the_journal) v h)
journal-good None h good = (record { rows = (settled-good h good).rows; pending = inl refl }, inl refl)
journal-good (Some v) h good = (record { rows = good-journal (v ∷ []) (settled rules h).rows (settled-good h good).rows; pending = tt }, tt)

workers-good : (v : Option Text) (h : Held) → IsGood h → GoodMeeting (long_met rules (Some the_workers) v h)
workers-good None h good = (record { rows = (settled-good h good).rows; pending = inr refl }, inr refl)
workers-good (Some v) h good = (record { rows = good-workers (v ∷ []) (settled rules h).rows (settled-good h good).rows; pending = tt }, tt)

alone-good : (h : Held) → IsGood h → IsGood (reacted rules the_alone [] h)
alone-good h good = record { rows = good-alone (settled rules h).rows (settled-good h good).rows; pending = tt }

help-good : (h : Held) → IsGood h → IsGood (reacted rules the_help [] h)
help-good h good = record { rows = (settled-good h good).rows; pending = tt }

long-good : (o : Option Rule) (v : Option Text) (h : Held) → IsOurs o → IsGood h → GoodMeeting (long_met rules o v h)
long-good o v h no_rule good = (good, tt)
long-good o v h journal_rule good = journal-good v h good
long-good o v h workers_rule good = workers-good v h good
long-good o None h alone_rule good = (alone-good h good, tt)
long-good o (Some v) h alone_rule good = (good, tt)
long-good o None h help_rule good = (help-good h good, tt)
long-good o (Some v) h help_rule good = (good, tt)

short-good : (o : Option Rule) (rest : Text) (h : Held) (after : Held → Held × Outcome) → IsOurs o → IsGood h
    → ((x : Held) → IsGood x → GoodMeeting (after x)) → GoodMeeting (short_met rules o rest h after)
short-good o rest h after no_rule good then = (good, tt)
short-good o rest h after journal_rule good then = journal-good (attached_value rest) h good
short-good o rest h after workers_rule good then = workers-good (attached_value rest) h good
short-good o rest h after alone_rule good then = then _ (alone-good h good)
short-good o rest h after help_rule good then = then _ (help-good h good)

abbrev StaysGood : (Text → ℕ → Outcome → Held → Held × Outcome) → Type 0
StaysGood after = (flags : Text) (skip : ℕ) (so_far : Outcome) (h : Held) → IsGoodOutcome so_far → IsGood h → GoodMeeting (after flags skip so_far h)

step-good : (x : Option ℕ) (flags : Text) (skip : ℕ) (so_far : Outcome) (h : Held) (after : Text → ℕ → Outcome → Held → Held × Outcome)
    → IsGoodOutcome so_far → IsGood h → StaysGood after → GoodMeeting (bundle_step rules x flags skip so_far h after)
step-good None flags skip so_far h after known good then = (good, known)
step-good (Some x) flags zero so_far h after known good then =
    short-good (arg_by_short rules x) (drop (length (encode_utf8 x)) flags) h (after (drop (length (encode_utf8 x)) flags) 0 done)
    (found_ours (λ a. not (is_some a.index) && has_short a x)) good (λ y g. then (drop (length (encode_utf8 x)) flags) 0 done y tt g)
step-good (Some x) flags (suc skip) so_far h after known good then = then (drop (length (encode_utf8 x)) flags) skip so_far h known good

bundle-good : (k : ℕ) → StaysGood (bundle_met rules k)
unfolding bundle_met
bundle-good zero flags skip so_far h known good = (good, known)
bundle-good (suc k) flags skip so_far h known good = step-good (slice_get (chars flags) 0) flags skip so_far h (bundle_met rules k) known good (bundle-good k)

-- ---- one word

started-good : (name : Text) → IsOption name → (p : Option (Text × List Text)) → IsPending p → IsOption (started name p).0
started-good name o None e = o
started-good name o (Some p) e = e

either-good : (name : Text) → IsOption name → (b : Bool) → IsGoodWait (cond b (option name) idle)
either-good name o true = o
either-good name o false = tt

pushed-good : (name : Text) → IsOption name → (word : Text) (h : Held) → IsGood h → IsGood (pushed name word h)
pushed-good name o word h good = record { rows = good.rows; pending = started-good name o h.pending good.pending }

value-good : (waiting : Waiting) (word : Text) (h : Held) → IsGoodWait waiting → IsGood h → GoodTurn (plain_word rules waiting word h)
value-good idle word h wait good = (good, tt)
value-good positional word h wait good = (good, tt)
value-good (option id) word h (inl wait) good =
    subst (λ i. GoodTurn (plain_word rules (option i) word h)) (sym wait) (pushed-good (codes "journal") (inl refl) word h good, either-good (codes "journal") (inl refl) _)
value-good (option id) word h (inr wait) good =
    subst (λ i. GoodTurn (plain_word rules (option i) word h)) (sym wait) (pushed-good (codes "workers") (inr refl) word h good, either-good (codes "workers") (inr refl) _)

flag-good : (waiting : Waiting) (word : Text) (h : Held) (o : Outcome) → IsGoodWait waiting → IsGoodOutcome o → IsGood h → GoodTurn (after_flag rules waiting word h o)
flag-good waiting word h done wait known good = (good, tt)
flag-good waiting word h (waits id) wait known good = (good, known)
flag-good waiting word h plain wait known good = value-good waiting word h wait good
flag-good waiting word h refused wait known good = value-good waiting word h wait good

short_word-good : (flags : Option Text) (waiting : Waiting) (word : Text) (h : Held) → IsGoodWait waiting → IsGood h → GoodTurn (short_or_plain rules waiting word flags h)
short_word-good None waiting word h wait good = value-good waiting word h wait good
short_word-good (Some flags) waiting word h wait good =
    let met = bundle-good (length flags) flags h.skip plain (record h { skip = 0 }) tt (record { rows = good.rows; pending = good.pending }) in
    flag-good waiting word _ _ wait met.1 met.0

long_word-good : (p : Option (Text × Option Text)) (waiting : Waiting) (word : Text) (h : Held) → IsGoodWait waiting → IsGood h → GoodTurn (long_or_other rules waiting word p h)
long_word-good None waiting word h wait good = short_word-good (short_of word) waiting word h wait good
long_word-good (Some p) waiting word h wait good =
    let met = long-good (arg_by_long rules p.0) p.1 h (found_ours (λ a. not (is_some a.index) && has_long a p.0)) good in
    flag-good waiting word _ _ wait met.1 met.0

no_subcommand : (waiting : Waiting) (word : Text) → subcommand_met [] waiting word ≡ None
no_subcommand idle word = refl
no_subcommand positional word = refl
no_subcommand (option id) word = refl

word-good : (is_trailing : Bool) (waiting : Waiting) (position : ℕ) (word : Text) (h : Held) → IsGoodWait waiting → IsGood h
    → GoodTurn (word_met rules [] is_trailing waiting position word h)
word-good true waiting position word h wait good = (good, tt)
word-good false waiting position word h wait good =
    subst (λ o. GoodTurn (subcommand_or_other rules o waiting position word h)) (sym (no_subcommand waiting word)) (go (bytes_eq word (45 ∷ 45 ∷ [])))
  where
    go : (b : Bool) → GoodTurn (cond b (h, trailing position) (long_or_other rules waiting word (long_of word) h))
    go true = (good, tt)
    go false = long_word-good (long_of word) waiting word h wait good

record IsGoodWalk (w : Walk) : Type 0 where
  held : IsGood w.held
  waiting : IsGoodWait w.waiting

after-good : (word : Text) (w : Walk) (h : Held) (s : Step) → IsGoodWalk w → IsGood h → IsGoodStep s → IsGoodWalk (after_step rules word w h s)
after-good word w h (next waiting) walk good step = record { held = good; waiting = step }
after-good word w h (trailing position) walk good step = record { held = good; waiting = walk.waiting }
after-good word w h (subcommand name) walk good step = record { held = good; waiting = walk.waiting }
after-good word w h value walk good step = record { held = good; waiting = walk.waiting }

walked_from-good : (stop : Option (Text × List Text)) (w : Walk) (word : Text) → IsGoodWalk w → IsGoodWalk (walked_from rules [] stop w word)
walked_from-good (Some p) w word good = record { held = good.held; waiting = good.waiting }
walked_from-good None w word good =
    let met = word-good w.is_trailing w.waiting w.position word w.held good.waiting good.held in
    after-good word w _ _ good met.0 met.1

walked-good : (w : Walk) (word : Text) → IsGoodWalk w → IsGoodWalk (walked rules [] w word)
unfolding walked
walked-good w word good = walked_from-good w.stopped w word good

walk-good : (w : Walk) (words : List Text) → IsGoodWalk w → IsGoodWalk (fold (walked rules []) w words)
walk-good w [] good = good
walk-good w (word ∷ words) good = walk-good (walked rules [] w word) words (walked-good w word good)

-- ---- at the end

row_says_true : (rows : List Row) → GoodRows rows → has_row (codes "alone") rows ≡ true → one_of (codes "alone") rows ≡ Some (codes "true")
row_says_true [] good e = cc
row_says_true (r ∷ rs) good e = go (bytes_eq r.id (codes "alone")) refl e (row_says_true rs good.1)
  where
    go : (b : Bool) → bytes_eq r.id (codes "alone") ≡ b → has_row (codes "alone") (r ∷ rs) ≡ true
        → (has_row (codes "alone") rs ≡ true → one_of (codes "alone") rs ≡ Some (codes "true")) → one_of (codes "alone") (r ∷ rs) ≡ Some (codes "true")
    go true is e rest = rw is (good.0 is)
    go false is e rest = rw is (rest (rw is at e))

new_row_says : (change : Row → List Row) (missing rows : List Row) → has_row (codes "alone") rows ≡ false
    → one_of (codes "alone") (at_row (codes "alone") change missing rows) ≡ one_of (codes "alone") missing
new_row_says change missing [] e = refl
new_row_says change missing (r ∷ rs) e = go (bytes_eq r.id (codes "alone")) refl e (new_row_says change missing rs)
  where
    go : (b : Bool) → bytes_eq r.id (codes "alone") ≡ b → has_row (codes "alone") (r ∷ rs) ≡ false
        → (has_row (codes "alone") rs ≡ false → one_of (codes "alone") (at_row (codes "alone") change missing rs) ≡ one_of (codes "alone") missing)
        → one_of (codes "alone") (at_row (codes "alone") change missing (r ∷ rs)) ≡ one_of (codes "alone") missing
    go true is e rest =
        let bad : true ≡ false = rw is at e in
        cc
    go false is e rest = rw (is, is) (rest (rw is at e))

default_journal-good : (rows : List Row) → GoodRows rows → GoodRows (with_default rows the_journal)
default_journal-good rows good = go (has_row (codes "journal") rows)
  where
    go : (b : Bool) → GoodRows (cond b rows (with_values (codes "journal") WithoutMinus DefaultValue (codes "100000" ∷ []) rows))
    go true = good
    go false = good-values (codes "journal") (inl refl) WithoutMinus DefaultValue (codes "100000" ∷ []) rows good

default_workers-good : (rows : List Row) → GoodRows rows → GoodRows (with_default rows the_workers)
default_workers-good rows good = go (has_row (codes "workers") rows)
  where
    go : (b : Bool) → GoodRows (cond b rows (with_values (codes "workers") WithoutMinus DefaultValue (codes "0" ∷ []) rows))
    go true = good
    go false = good-values (codes "workers") (inr refl) WithoutMinus DefaultValue (codes "0" ∷ []) rows good

default_alone-says : (rows : List Row) → GoodRows rows
    → (one_of (codes "alone") (with_default rows the_alone) ≡ Some (codes "true")) ⊎ (one_of (codes "alone") (with_default rows the_alone) ≡ Some (codes "false"))
default_alone-says rows good = go (has_row (codes "alone") rows) refl
  where
    go : (b : Bool) → has_row (codes "alone") rows ≡ b
        → (one_of (codes "alone") (cond b rows (with_values (codes "alone") AsWritten DefaultValue (codes "false" ∷ []) rows)) ≡ Some (codes "true"))
        ⊎ (one_of (codes "alone") (cond b rows (with_values (codes "alone") AsWritten DefaultValue (codes "false" ∷ []) rows)) ≡ Some (codes "false"))
    go true e = inl (row_says_true rows good e)
    go false e = inr (new_row_says (more_values DefaultValue (codes "false" ∷ [])) (new_row (codes "alone") AsWritten DefaultValue (codes "false" ∷ []) ∷ []) rows e)

default_help-same : (rows : List Row) → with_default rows the_help ≡ rows
default_help-same rows = go (has_row (codes "help") rows)
  where
    go : (b : Bool) → cond b rows rows ≡ rows
    go true = refl
    go false = refl

abbrev SaysEither : List Row → Type 0
SaysEither rows = (one_of (codes "alone") rows ≡ Some (codes "true")) ⊎ (one_of (codes "alone") rows ≡ Some (codes "false"))

finished-says : (h : Held) → IsGood h → SaysEither (finished rules h)
finished-says h good =
    let rows = (settled rules h).rows in
    let numbers = with_default (with_default rows the_journal) the_workers in
    let numbers-good = default_workers-good (with_default rows the_journal) (default_journal-good rows (settled-good h good).rows) in
    subst SaysEither (sym (default_help-same (with_default numbers the_alone))) (default_alone-says numbers numbers-good)

-- the flag is given, or it is not
pub alone_is : (words : List Text) → (text_for (codes "alone") words ≡ Some (codes "true")) ⊎ (text_for (codes "alone") words ≡ Some (codes "false"))
alone_is words =
    let start : IsGoodWalk (walk_from nothing_held) = record { held = record { rows = tt; pending = tt }; waiting = tt } in
    finished-says _ (walk-good (walk_from nothing_held) (argument_words bench words) start).held
