-- What a line of a script says, without its line feed.
use Rattle.std.specs.Prelude.{◌≡◌, ◌⊎◌, ◌<◌, ◌^◌, ℕ, ◌+◌, List, [], ◌∷◌, ◌++◌, codes, decimal}
use Rattle.wb_text.specs.Names.{IsName}
use Rattle.scripts.specs.declared.instruction.Head.{Head}
use Rattle.scripts.specs.declared.instruction.Head.TheVariants.{Cat, Test, Whole}
use Rattle.scripts.specs.declared.instruction.Instruction.{Instruction}
use Rattle.scripts.specs.declared.instruction.Instruction.TheVariants.{Call, Work}
use Rattle.scripts.specs.declared.instruction.Request.{Request}
use Rattle.scripts.specs.declared.instruction.Request.TheVariants.{PutCat, PutTest, DropCat, DropTest, Ask, Poll, Forget, Release, List as ListAll, Claim, Return, GiveBack, Close}

-- The words of a request that has no text. One with a text is no request of one line.
abbrev pub Requests : List ℕ → Request → Type 0
Requests words (DropCat name) = words ≡ codes "dropcat " ++ name
Requests words (DropTest name) = words ≡ codes "droptest " ++ name
Requests words (Ask test cat) = words ≡ codes "ask " ++ (test ++ (codes " " ++ cat))
Requests words (Poll job) = words ≡ codes "poll " ++ decimal job
Requests words (Forget job) = words ≡ codes "forget " ++ decimal job
Requests words (Release job) = words ≡ codes "release " ++ decimal job
Requests words ListAll = words ≡ codes "list"
Requests words Claim = words ≡ codes "claim"
Requests words (Return claim) = words ≡ codes "return " ++ decimal claim
Requests words (GiveBack claim) = words ≡ codes "back " ++ decimal claim
Requests words Close = words ≡ codes "close"
Requests words (PutCat name text) = ⊥
Requests words (PutTest text) = ⊥

-- the request of this word with this number
abbrev pub IsNumbered : List ℕ → ℕ → Request → Type 0
IsNumbered word number (Poll job) = (word ≡ codes "poll") × (job ≡ number)
IsNumbered word number (Forget job) = (word ≡ codes "forget") × (job ≡ number)
IsNumbered word number (Release job) = (word ≡ codes "release") × (job ≡ number)
IsNumbered word number (Return claim) = (word ≡ codes "return") × (claim ≡ number)
IsNumbered word number (GiveBack claim) = (word ≡ codes "back") × (claim ≡ number)
IsNumbered word number request = ⊥

-- a request that has a number
abbrev pub HasNumber : Request → Type 0
HasNumber (Poll job) = Unit {0}
HasNumber (Forget job) = Unit {0}
HasNumber (Release job) = Unit {0}
HasNumber (Return claim) = Unit {0}
HasNumber (GiveBack claim) = Unit {0}
HasNumber request = ⊥

-- the words behind the seat
abbrev pub Says : List ℕ → Head → Type 0
Says words (Cat name) = words ≡ codes "cat " ++ name
Says words Test = words ≡ codes "test"
Says words (Whole request) = Requests words request

-- A line is the digit of a seat, a space, and words.
abbrev pub Spells : List ℕ → ℕ → Head → Type 0
Spells line seat head = (words : List ℕ) × (line ≡ (48 + seat) ∷ 32 ∷ words) × Says words head

-- Its names are names, and its numbers below 2^32.
abbrev pub IsSound : Request → Type 0
IsSound (PutCat name text) = IsName name
IsSound (PutTest text) = Unit {0}
IsSound (DropCat name) = IsName name
IsSound (DropTest name) = IsName name
IsSound (Ask test cat) = IsName test × IsName cat
IsSound (Poll job) = job < 2 ^ 32
IsSound (Forget job) = job < 2 ^ 32
IsSound (Release job) = job < 2 ^ 32
IsSound ListAll = Unit {0}
IsSound Claim = Unit {0}
IsSound (Return claim) = claim < 2 ^ 32
IsSound (GiveBack claim) = claim < 2 ^ 32
IsSound Close = Unit {0}

abbrev pub IsSoundHead : Head → Type 0
IsSoundHead (Cat name) = IsName name
IsSoundHead Test = Unit {0}
IsSoundHead (Whole request) = IsSound request

-- no seat and no sound head is spelled by the line
abbrev pub SpellsNone : List ℕ → Type 0
SpellsNone line = (seat : ℕ) (head : Head) → seat < 8 → IsSoundHead head → ¬ Spells line seat head

-- the line `work`
abbrev pub IsWork : List ℕ → Type 0
IsWork line = line ≡ codes "work"

-- A bad line: it neither spells what a session asks nor is `work`.
abbrev pub IsBad : List ℕ → Type 0
IsBad line = (¬ IsWork line) × SpellsNone line

-- The request of a head, with whatever text follows.
abbrev pub IsOf : Head → Request → Type 0
IsOf (Cat name) (PutCat other text) = other ≡ name
IsOf Test (PutTest text) = Unit {0}
IsOf (Whole asked) request = request ≡ asked
IsOf head request = ⊥

-- The instruction whose first line is this: of a seat that there is, or to work.
abbrev pub Begins : List ℕ → Instruction → Type 0
Begins line (Call seat request) = (head : Head) × Spells line seat head × IsOf head request × (seat < 8) × IsSoundHead head
Begins line Work = IsWork line

-- the seat that calls is one of a session
abbrev pub IsSeated : Instruction → Type 0
IsSeated (Call seat request) = seat < 8
IsSeated Work = Unit {0}

-- a head that a text follows
abbrev pub HasText : Head → Type 0
HasText (Cat name) = Unit {0}
HasText Test = Unit {0}
HasText (Whole request) = ⊥

-- The first line of an instruction with a text, of a seat that there is.
abbrev pub OpensText : List ℕ → Type 0
OpensText line = (seat : ℕ) × (head : Head) × Spells line seat head × (seat < 8) × IsSoundHead head × HasText head

-- A line that nothing is done for: it is empty, or a remark.
abbrev pub IsSkipped : List ℕ → Type 0
IsSkipped line = (line ≡ []) ⊎ ((remark : List ℕ) × (line ≡ 35 ∷ remark))
