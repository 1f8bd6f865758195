-- What words say, part by part.
use Rattle.std.proofs.Common.{◌≡◌, ◌≢◌, ◌<◌, ◌++◌, ℕ, List, [], ◌∷◌, refl, sym, ap, subst, arith, ◌∙◌}
use Rattle.std.specs.Prelude.{true, false, not, nat_eq, All, Result, Ok, Err, codes, decimal}
use Rattle.std.specs.Str.{IsUtf8, bytes_eq}
use Rattle.std.specs.Str.Parse.{ParsesUnsigned}
use Rattle.std.proofs.lemmas.Slice.Eq.{bytes_eq-Decides}
use Rattle.std.proofs.lemmas.Str.{IsUtf8-from_ascii}
use Rattle.std.proofs.lemmas.Fmt.{IsAscii-decimal, parse-decimal}
use Rattle.std.specs.List.{list_all}
use Rattle.std.proofs.lemmas.Bool.{and_parts, false≢true}
use Rattle.std.proofs.lemmas.List.Elements.{All-nil, All-cons, All-head, All-tail}
use Rattle.wb_text.specs.Names.{IsName, IsPrintable}
use Rattle.scripts.specs.Spelled.{Says, Requests, HasNumber, IsNumbered, IsSound, IsSoundHead}
use Rattle.scripts.specs.declared.instruction.Head.{Head}
use Rattle.scripts.specs.declared.instruction.Head.TheVariants.{Cat, Test, Whole}
use Rattle.scripts.specs.declared.instruction.Request.{Request}
use Rattle.scripts.specs.declared.instruction.Request.TheVariants.{PutCat, PutTest, DropCat, DropTest, Ask, Poll, Forget, Release, List as ListAll, Claim, Return, GiveBack, Close}

-- no byte is a space
abbrev pub IsWord : List ℕ → Type 0
IsWord word = All (λ byte. byte ≢ 32) word

written_word : (xs : List ℕ) → list_all (λ byte. not (nat_eq byte 32)) xs ≡ true → IsWord xs
written_word [] e = All-nil (λ byte. byte ≢ 32)
written_word (x ∷ xs) e =
    let p = and_parts (not (nat_eq x 32)) (list_all (λ byte. not (nat_eq byte 32)) xs) e in
    let Q : ℕ → Type 0 = λ y. not (nat_eq y 32) ≡ true in
    All-cons (λ byte. byte ≢ 32) x xs (λ same. false≢true (subst Q same p.0)) (written_word xs p.1)

printable_word : (xs : List ℕ) → All IsPrintable xs → IsWord xs
printable_word [] h = All-nil (λ byte. byte ≢ 32)
printable_word (x ∷ xs) h =
    let p = All-head IsPrintable x xs h in
    All-cons (λ byte. byte ≢ 32) x xs (λ same. omega (arith, p.0, same)) (printable_word xs (All-tail IsPrintable x xs h))

-- a word ends at the first space
parted : (a b r s : List ℕ) → IsWord a → IsWord b → a ++ (32 ∷ r) ≡ b ++ (32 ∷ s) → (a ≡ b) × (r ≡ s)
parted [] [] r s h k e = (refl, cc)
parted [] (y ∷ b) r s h k e = let same : y ≡ 32 = cc in absurd (All-head (λ byte. byte ≢ 32) y b k same)
parted (x ∷ a) [] r s h k e = let same : x ≡ 32 = cc in absurd (All-head (λ byte. byte ≢ 32) x a h same)
parted (x ∷ a) (y ∷ b) r s h k e =
    let heads : x ≡ y = cc in
    let tails : a ++ (32 ∷ r) ≡ b ++ (32 ∷ s) = cc in
    let p = parted a b r s (All-tail (λ byte. byte ≢ 32) x a h) (All-tail (λ byte. byte ≢ 32) y b k) tails in
    (rw (heads, p.0) refl, p.1)

spaceless : (a r : List ℕ) → ¬ IsWord (a ++ (32 ∷ r))
spaceless [] r h = All-head (λ byte. byte ≢ 32) 32 r h refl
spaceless (x ∷ a) r h = spaceless a r (All-tail (λ byte. byte ≢ 32) x (a ++ (32 ∷ r)) h)

-- the word of a head, and what stands behind it and a space
abbrev pub Parts : List ℕ → List ℕ → Head → Type 0
Parts word rest (Cat name) = (word ≡ codes "cat") × (rest ≡ name)
Parts word rest (Whole (DropCat name)) = (word ≡ codes "dropcat") × (rest ≡ name)
Parts word rest (Whole (DropTest name)) = (word ≡ codes "droptest") × (rest ≡ name)
Parts word rest (Whole (Ask test cat)) = (word ≡ codes "ask") × (rest ≡ test ++ (codes " " ++ cat))
Parts word rest (Whole (Poll job)) = (word ≡ codes "poll") × (rest ≡ decimal job)
Parts word rest (Whole (Forget job)) = (word ≡ codes "forget") × (rest ≡ decimal job)
Parts word rest (Whole (Release job)) = (word ≡ codes "release") × (rest ≡ decimal job)
Parts word rest (Whole (Return claim)) = (word ≡ codes "return") × (rest ≡ decimal claim)
Parts word rest (Whole (GiveBack claim)) = (word ≡ codes "back") × (rest ≡ decimal claim)
Parts word rest Test = ⊥
Parts word rest (Whole Claim) = ⊥
Parts word rest (Whole ListAll) = ⊥
Parts word rest (Whole Close) = ⊥
Parts word rest (Whole (PutCat name text)) = ⊥
Parts word rest (Whole (PutTest text)) = ⊥

pub says_parts : (word rest : List ℕ) (head : Head) → IsWord word → Says (word ++ (codes " " ++ rest)) head → Parts word rest head
says_parts word rest (Cat name) h e = parted word (codes "cat") rest name h (written_word (codes "cat") refl) e
says_parts word rest (Whole (DropCat name)) h e = parted word (codes "dropcat") rest name h (written_word (codes "dropcat") refl) e
says_parts word rest (Whole (DropTest name)) h e = parted word (codes "droptest") rest name h (written_word (codes "droptest") refl) e
says_parts word rest (Whole (Ask test cat)) h e = parted word (codes "ask") rest (test ++ (codes " " ++ cat)) h (written_word (codes "ask") refl) e
says_parts word rest (Whole (Poll job)) h e = parted word (codes "poll") rest (decimal job) h (written_word (codes "poll") refl) e
says_parts word rest (Whole (Forget job)) h e = parted word (codes "forget") rest (decimal job) h (written_word (codes "forget") refl) e
says_parts word rest (Whole (Release job)) h e = parted word (codes "release") rest (decimal job) h (written_word (codes "release") refl) e
says_parts word rest (Whole (Return claim)) h e = parted word (codes "return") rest (decimal claim) h (written_word (codes "return") refl) e
says_parts word rest (Whole (GiveBack claim)) h e = parted word (codes "back") rest (decimal claim) h (written_word (codes "back") refl) e
says_parts word rest Test h e = spaceless word rest (subst IsWord (sym e) (written_word (codes "test") refl))
says_parts word rest (Whole Claim) h e = spaceless word rest (subst IsWord (sym e) (written_word (codes "claim") refl))
says_parts word rest (Whole ListAll) h e = spaceless word rest (subst IsWord (sym e) (written_word (codes "list") refl))
says_parts word rest (Whole Close) h e = spaceless word rest (subst IsWord (sym e) (written_word (codes "close") refl))
says_parts word rest (Whole (PutCat name text)) h e = absurd e
says_parts word rest (Whole (PutTest text)) h e = absurd e

-- a head whose word is none of these has a number
pub no_such_word : (word rest : List ℕ) (head : Head) → word ≢ codes "cat" → word ≢ codes "ask" → word ≢ codes "dropcat" → word ≢ codes "droptest" → IsSoundHead head → IsWord word
    → ((request : Request) → HasNumber request → IsSound request → IsWord word → ¬ Requests (word ++ (codes " " ++ rest)) request) → ¬ Says (word ++ (codes " " ++ rest)) head
no_such_word word rest (Cat name) cat ask dropcat droptest sound h none e = cat (says_parts word rest (Cat name) h e).0
no_such_word word rest (Whole (DropCat name)) cat ask dropcat droptest sound h none e = dropcat (says_parts word rest (Whole (DropCat name)) h e).0
no_such_word word rest (Whole (DropTest name)) cat ask dropcat droptest sound h none e = droptest (says_parts word rest (Whole (DropTest name)) h e).0
no_such_word word rest (Whole (Ask t c)) cat ask dropcat droptest sound h none e = ask (says_parts word rest (Whole (Ask t c)) h e).0
no_such_word word rest (Whole (Poll job)) cat ask dropcat droptest sound h none e = none (Poll job) tt sound h e
no_such_word word rest (Whole (Forget job)) cat ask dropcat droptest sound h none e = none (Forget job) tt sound h e
no_such_word word rest (Whole (Release job)) cat ask dropcat droptest sound h none e = none (Release job) tt sound h e
no_such_word word rest (Whole (Return claim)) cat ask dropcat droptest sound h none e = none (Return claim) tt sound h e
no_such_word word rest (Whole (GiveBack claim)) cat ask dropcat droptest sound h none e = none (GiveBack claim) tt sound h e
no_such_word word rest Test cat ask dropcat droptest sound h none e = says_parts word rest Test h e
no_such_word word rest (Whole Claim) cat ask dropcat droptest sound h none e = says_parts word rest (Whole Claim) h e
no_such_word word rest (Whole ListAll) cat ask dropcat droptest sound h none e = says_parts word rest (Whole ListAll) h e
no_such_word word rest (Whole Close) cat ask dropcat droptest sound h none e = says_parts word rest (Whole Close) h e
no_such_word word rest (Whole (PutCat name text)) cat ask dropcat droptest sound h none e = e
no_such_word word rest (Whole (PutTest text)) cat ask dropcat droptest sound h none e = e

-- a word and a number, where the number isn't printed so
pub no_such_number : (word rest : List ℕ) (request : Request) → ((n : ℕ) → n < 4294967296 → rest ≢ decimal n) → HasNumber request → IsSound request → IsWord word
    → ¬ Requests (word ++ (codes " " ++ rest)) request
no_such_number word rest (Poll job) other some sound h e = other job sound (says_parts word rest (Whole (Poll job)) h e).1
no_such_number word rest (Forget job) other some sound h e = other job sound (says_parts word rest (Whole (Forget job)) h e).1
no_such_number word rest (Release job) other some sound h e = other job sound (says_parts word rest (Whole (Release job)) h e).1
no_such_number word rest (Return claim) other some sound h e = other claim sound (says_parts word rest (Whole (Return claim)) h e).1
no_such_number word rest (GiveBack claim) other some sound h e = other claim sound (says_parts word rest (Whole (GiveBack claim)) h e).1
no_such_number word rest request other some sound h e = absurd some

-- or where the word is another
pub no_such_request : (word rest : List ℕ) (request : Request) → ((n : ℕ) (other : Request) → ¬ IsNumbered word n other) → HasNumber request → IsSound request → IsWord word
    → ¬ Requests (word ++ (codes " " ++ rest)) request
no_such_request word rest (Poll job) none some sound h e = none job (Poll job) ((says_parts word rest (Whole (Poll job)) h e).0, refl)
no_such_request word rest (Forget job) none some sound h e = none job (Forget job) ((says_parts word rest (Whole (Forget job)) h e).0, refl)
no_such_request word rest (Release job) none some sound h e = none job (Release job) ((says_parts word rest (Whole (Release job)) h e).0, refl)
no_such_request word rest (Return claim) none some sound h e = none claim (Return claim) ((says_parts word rest (Whole (Return claim)) h e).0, refl)
no_such_request word rest (GiveBack claim) none some sound h e = none claim (GiveBack claim) ((says_parts word rest (Whole (GiveBack claim)) h e).0, refl)
no_such_request word rest request none some sound h e = absurd some

-- one word alone
pub says_word : (word : List ℕ) (head : Head) → IsWord word → word ≢ codes "test" → word ≢ codes "claim" → word ≢ codes "list" → word ≢ codes "close" → ¬ Says word head
says_word word (Cat name) h test claim list close e = spaceless (codes "cat") name (subst IsWord e h)
says_word word (Whole (DropCat name)) h test claim list close e = spaceless (codes "dropcat") name (subst IsWord e h)
says_word word (Whole (DropTest name)) h test claim list close e = spaceless (codes "droptest") name (subst IsWord e h)
says_word word (Whole (Ask t c)) h test claim list close e = spaceless (codes "ask") (t ++ (codes " " ++ c)) (subst IsWord e h)
says_word word (Whole (Poll job)) h test claim list close e = spaceless (codes "poll") (decimal job) (subst IsWord e h)
says_word word (Whole (Forget job)) h test claim list close e = spaceless (codes "forget") (decimal job) (subst IsWord e h)
says_word word (Whole (Release job)) h test claim list close e = spaceless (codes "release") (decimal job) (subst IsWord e h)
says_word word (Whole (Return c)) h test claim list close e = spaceless (codes "return") (decimal c) (subst IsWord e h)
says_word word (Whole (GiveBack c)) h test claim list close e = spaceless (codes "back") (decimal c) (subst IsWord e h)
says_word word Test h test claim list close e = test e
says_word word (Whole Claim) h test claim list close e = claim e
says_word word (Whole ListAll) h test claim list close e = list e
says_word word (Whole Close) h test claim list close e = close e
says_word word (Whole (PutCat name text)) h test claim list close e = e
says_word word (Whole (PutTest text)) h test claim list close e = e

-- two names with a space between, in one way
pub two_names : (rest test cat first second : List ℕ) → IsWord test → IsName first → rest ≡ test ++ (codes " " ++ cat) → rest ≡ first ++ (codes " " ++ second) → (test ≡ first) × (cat ≡ second)
two_names rest test cat first second h name p q = parted test first cat second h (printable_word first name.printable) (sym p ∙ q)

pub names_need_a_space : (rest test cat : List ℕ) → IsWord rest → rest ≢ test ++ (codes " " ++ cat)
names_need_a_space rest test cat h e = spaceless test cat (subst IsWord e h)

pub differ : (a b : List ℕ) → false ≡ bytes_eq a b → a ≢ b
differ a b h e = false≢true (h ∙ (bytes_eq-Decides a b).1 e)

-- bytes that are no number's

pub not_utf8 : (bytes : List ℕ) (n : ℕ) → n < 4294967296 → ¬ IsUtf8 bytes → bytes ≢ decimal n
not_utf8 bytes n small h e = h (subst IsUtf8 (sym e) (IsUtf8-from_ascii (decimal n) (IsAscii-decimal n (omega (arith, small)))))

pub number_of : {E : Type 0} (bytes : List ℕ) (n : ℕ) (r : Result ℕ E) → n < 4294967296 → bytes ≡ decimal n → ParsesUnsigned 32 10 bytes r → r ≡ Ok n
number_of bytes n r small e parses = parse-decimal 32 n bytes r (omega (arith, small)) (omega (arith, small)) e parses

pub never_parsed : {E : Type 0} (bytes : List ℕ) (n : ℕ) (r : Result ℕ E) (f : E) → n < 4294967296 → ParsesUnsigned 32 10 bytes r → r ≡ Err f → bytes ≢ decimal n
never_parsed bytes n r f small parses fails e = let both : Ok n ≡ Err f = sym (number_of bytes n r small e parses) ∙ fails in cc

pub printed_otherwise : {E : Type 0} (bytes : List ℕ) (n k : ℕ) (r : Result ℕ E) → n < 4294967296 → ParsesUnsigned 32 10 bytes r → r ≡ Ok k → decimal k ≢ bytes → bytes ≢ decimal n
printed_otherwise bytes n k r small parses is other e =
    let both : Ok n ≡ Ok k = sym (number_of bytes n r small e parses) ∙ is in
    let same : k ≡ n = cc in
    other (ap decimal same ∙ sym e)
