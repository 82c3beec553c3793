-- The reading of written forms goes on behind them with the steps that they stand for.
use Rattle.std.proofs.Common.{◌≡◌, ℕ, zero, suc, ◌+◌, ◌-◌, ◌<◌, ◌≤◌, Bool, true, false, cond, ◌&&◌, ltb, leb, List, [], ◌∷◌, ◌++◌, length, ℤ, pos, negsuc, Some, None, codes, decimal, Option, sym, refl, ap, ◌∙◌, subst, append_assoc, append-nil, arith, length-append}
use mathlib.Core.Bool.{beq}
use Rattle.std.specs.Str.{bytes_eq}
use Rattle.std.proofs.lemmas.Bool.{le-leb, lt-ltb, and_from, cond-true, cond-false}
use Rattle.scan.specs.declared.types.Verb.{Verb}
use Rattle.scan.specs.declared.types.Verb.TheVariants as verb
use Rattle.scan.specs.declared.types.Layout.{Layout}
use Rattle.scan.specs.declared.types.Layout.TheVariants.{Byte8, Sixbit}
use Rattle.scan.specs.Tokens.{Tok, opens, closes, numeral, word, text, line_end, next, parted}
use Rattle.scan.specs.Words.{spelled, layout_name, verb_of, Kind, a_layout, Arg, nat, int, chars, layout, kinds, is_open, natural_of, bind, argument, Said, says}
use Rattle.scan.specs.Forms.{copies, Open, bottom, times, depth, first, add, State, start, opened, counting, arguing, over, ended, begun, fit, Outcome, done, Reads, finished, goes}
use Rattle.scan.specs.Writing.{written_arg, written_args}
use Rattle.scan.proofs.Spelled.{verb_spelled}
use Rattle.script.specs.Scripts.{Whole}
use Rattle.script.specs.Written as w
use Rattle.script.specs.Written.{Forms, end, steps_of, each, written, OfKind, OfKinds, Called, some, Inner, Opened}
use Rattle.script.proofs.WrittenTokens.{Gives, gives_open, gives_close, gives_line, gives_space, gives_bytes, gives_natural, gives_negative, gives_text}

-- from one state and these bytes the reading goes on from another state with those bytes, wherever they stand
abbrev pub Brings : State → List ℕ → State → List ℕ → Type 0
Brings s xs u ys = (o : Outcome) → ((l c : ℕ) → Reads u l c ys o) → (l c : ℕ) → Reads s l c xs o

takes : (s u : State) (xs ys : List ℕ) (t : Tok) → Gives xs t ys → fit s t ≡ Some u → Brings s xs u ys
takes s u xs ys t g f o r l c = goes u (ap (fit s) (g l c).0 ∙ f) (subst (λ (z : List ℕ). Reads u (next l c xs).line_after (next l c xs).column_after z o) (sym (g l c).1) (r _ _))

-- Arguments

-- the token that an argument is
token_of : Arg → Tok
token_of (nat n) = numeral false n
token_of (int (pos n)) = numeral false n
token_of (int (negsuc n)) = numeral true (suc n)
token_of (chars t) = text t
token_of (layout l) = word (layout_name l)

layout_gives : (l : Layout) (ys : List ℕ) → parted ys ≡ true → Gives (layout_name l ++ ys) (word (layout_name l)) ys
layout_gives Byte8 ys p = gives_bytes (layout_name Byte8) ys refl refl refl p
layout_gives Sixbit ys p = gives_bytes (layout_name Sixbit) ys refl refl refl p

argument_gives : {κ : Kind} {a : Arg} → OfKind κ a → (ys : List ℕ) → parted ys ≡ true → Gives (written_arg a ++ ys) (token_of a) ys
unfolding token_of
argument_gives (w.number small) ys p = gives_natural _ ys small p
argument_gives (w.cells low small) ys p = gives_natural _ ys (omega arith) p
argument_gives (w.positive small) ys p = gives_natural _ ys small p
argument_gives (w.negative small) ys p = gives_negative _ ys (omega arith) p
argument_gives (w.words {t} h) ys p = subst (λ (zs : List ℕ). Gives (34 ∷ zs) (text t) ys) (sym (append_assoc t (34 ∷ []) ys)) (gives_text t ys h p)
argument_gives (w.name {l}) ys p = layout_gives l ys p

layout_is : (l : Layout) → argument a_layout (word (layout_name l)) ≡ Some (layout l)
layout_is Byte8 = refl
layout_is Sixbit = refl

within_is : (low high n : ℕ) → low ≤ n → n ≤ high → natural_of low high (numeral false n) ≡ Some n
within_is low high n h k = cond-true (leb low n && leb n high) (Some n) None (and_from _ _ (le-leb low n h) (le-leb n high k))

argument_is : {κ : Kind} {a : Arg} → OfKind κ a → argument κ (token_of a) ≡ Some a
unfolding token_of
argument_is (w.number {n} small) = ap (λ (o : Option ℕ). bind o (λ m. Some (nat m))) (within_is 0 2147483647 n (omega arith) small)
argument_is (w.cells {n} low small) = ap (λ (o : Option ℕ). bind o (λ m. Some (nat m))) (within_is 1 4096 n low small)
argument_is (w.positive {n} small) = ap (λ (o : Option ℤ). bind o (λ z. Some (int z))) (cond-true (leb n 2147483647) (Some (pos n)) None (le-leb n 2147483647 small))
argument_is (w.negative {n} small) = ap (λ (o : Option ℤ). bind o (λ z. Some (int z))) (cond-true (leb (suc n) 2147483648) (Some (negsuc n)) None (le-leb (suc n) 2147483648 (omega arith)))
argument_is (w.words h) = refl
argument_is (w.name {l}) = layout_is l

args_part : (more : List Arg) (ys : List ℕ) → parted (written_args more (41 ∷ ys)) ≡ true
args_part [] ys = refl
args_part (a ∷ more) ys = refl

-- the arguments of a call, and its closing bracket
args_bring : {κs : List Kind} {more : List Arg} → OfKinds κs more → (v : Verb) (got : List Arg) (k : Open) (ys : List ℕ) → Brings (arguing v got κs k) (written_args more (41 ∷ ys)) (ended (add (says v (got ++ more) ∷ []) k)) ys
unfolding fit
args_bring w.none v got k ys o r =
    (subst (λ (g : List Arg). Brings (arguing v got [] k) (41 ∷ ys) (ended (add (says v g ∷ []) k)) ys) (sym (append-nil got))
    (takes (arguing v got [] k) (ended (add (says v got ∷ []) k)) (41 ∷ ys) ys closes (gives_close ys) refl)) o r
args_bring (w.one {κ} {κs} {a} {more} one rest) v got k ys o r =
    takes (arguing v got (κ ∷ κs) k) (arguing v (got ++ a ∷ []) κs k) _ (written_args more (41 ∷ ys)) (token_of a)
    (gives_space _ _ _ (argument_gives one (written_args more (41 ∷ ys)) (args_part more ys)))
    (ap (λ (z : Option Arg). bind z (λ b. Some (arguing v (got ++ b ∷ []) κs k))) (argument_is one)) o
    (args_bring rest v (got ++ a ∷ []) k ys o (subst (λ (g : List Arg). (l c : ℕ) → Reads (ended (add (says v g ∷ []) k)) l c ys o) (sym (append_assoc got (a ∷ []) more)) r))

-- Words

verb_gives : (v : Verb) (ys : List ℕ) → parted ys ≡ true → Gives (spelled v ++ ys) (word (spelled v)) ys
verb_gives verb.Open ys p = gives_bytes (spelled verb.Open) ys refl refl refl p
verb_gives verb.Null ys p = gives_bytes (spelled verb.Null) ys refl refl refl p
verb_gives verb.Number ys p = gives_bytes (spelled verb.Number) ys refl refl refl p
verb_gives verb.Copy ys p = gives_bytes (spelled verb.Copy) ys refl refl refl p
verb_gives verb.Make ys p = gives_bytes (spelled verb.Make) ys refl refl refl p
verb_gives verb.Text ys p = gives_bytes (spelled verb.Text) ys refl refl refl p
verb_gives verb.Name ys p = gives_bytes (spelled verb.Name) ys refl refl refl p
verb_gives verb.Fetch ys p = gives_bytes (spelled verb.Fetch) ys refl refl refl p
verb_gives verb.Store ys p = gives_bytes (spelled verb.Store) ys refl refl refl p
verb_gives verb.Divide ys p = gives_bytes (spelled verb.Divide) ys refl refl refl p
verb_gives verb.Kind ys p = gives_bytes (spelled verb.Kind) ys refl refl refl p
verb_gives verb.Read ys p = gives_bytes (spelled verb.Read) ys refl refl refl p
verb_gives verb.Same ys p = gives_bytes (spelled verb.Same) ys refl refl refl p
verb_gives verb.Collect ys p = gives_bytes (spelled verb.Collect) ys refl refl refl p

not_times : (v : Verb) → bytes_eq (spelled v) (codes "times") ≡ false
not_times verb.Open = refl
not_times verb.Null = refl
not_times verb.Number = refl
not_times verb.Copy = refl
not_times verb.Make = refl
not_times verb.Text = refl
not_times verb.Name = refl
not_times verb.Fetch = refl
not_times verb.Store = refl
not_times verb.Divide = refl
not_times verb.Kind = refl
not_times verb.Read = refl
not_times verb.Same = refl
not_times verb.Collect = refl

beq_same : (b : Bool) → beq b b ≡ true
beq_same true = refl
beq_same false = refl

verb_begins : (v : Verb) (k : Open) → first k ≡ is_open v → begun k (spelled v) ≡ Some (arguing v [] (kinds v) k)
verb_begins v k e =
    let call = λ (u : Verb). cond (beq (first k) (is_open u)) (Some (arguing u [] (kinds u) k)) None in
    cond-false (bytes_eq (spelled v) (codes "times")) (cond (first k) None (Some (counting k))) (bind (verb_of (spelled v)) call) (not_times v)
    ∙ ap (λ (o : Option Verb). bind o call) (verb_spelled v)
    ∙ cond-true (beq (first k) (is_open v)) (Some (arguing v [] (kinds v) k)) None (ap (λ (b : Bool). beq b (is_open v)) e ∙ beq_same (is_open v))

-- a call whose bracket has been read
call_brings : (s : Said) (k : Open) (ys : List ℕ) → first k ≡ is_open s.verb → OfKinds (kinds s.verb) s.args → Brings (opened k) (spelled s.verb ++ written_args s.args (41 ∷ ys)) (ended (add (s ∷ []) k)) ys
unfolding fit
call_brings s k ys e fits o r =
    takes (opened k) (arguing s.verb [] (kinds s.verb) k) _ (written_args s.args (41 ∷ ys)) (word (spelled s.verb))
    (verb_gives s.verb (written_args s.args (41 ∷ ys)) (args_part s.args ys)) (verb_begins s.verb k e) o
    (args_bring fits s.verb [] k ys o r)

-- Forms

inside_part : (fs : Forms) (ys : List ℕ) → parted (each (codes " ") [] fs (41 ∷ ys)) ≡ true
inside_part end ys = refl
inside_part (w.call s more) ys = refl
inside_part (w.times n fs more) ys = refl

count_is : (n : ℕ) (k : Open) → 1 ≤ n → n ≤ 1000 → fit (counting k) (numeral false n) ≡ Some (start (times n [] k))
unfolding fit
count_is n k low high = ap (λ (o : Option ℕ). bind o (λ m. Some (start (times m [] k)))) (within_is 1 1000 n low high)

times_begins : (k : Open) → first k ≡ false → begun k (codes "times") ≡ Some (counting k)
times_begins k e = ap (λ (b : Bool). cond b None (Some (counting k))) e

closes_is : (n : ℕ) (ss : List Said) (k : Open) → 1 ≤ length ss → fit (start (times n ss k)) closes ≡ Some (ended (add (copies n ss) k))
unfolding fit
closes_is n [] k h = absurd (omega arith)
closes_is n (s ∷ ss) k h = refl

-- a `times` whose bracket has been read, when its forms are read
times_brings : (n : ℕ) (fs : Forms) (k : Open) (ys : List ℕ) → first k ≡ false → 1 ≤ n → n ≤ 1000 → 1 ≤ length (steps_of fs) →
    Brings (start (times n [] k)) (each (codes " ") [] fs (41 ∷ ys)) (start (times n (steps_of fs) k)) (41 ∷ ys) →
    Brings (opened k) (codes "times " ++ (decimal n ++ each (codes " ") [] fs (41 ∷ ys))) (ended (add (copies n (steps_of fs)) k)) ys
unfolding fit
times_brings n fs k ys e low high any forms o r =
    let rest = each (codes " ") [] fs (41 ∷ ys) in
    takes (opened k) (counting k) _ (32 ∷ (decimal n ++ rest)) (word (codes "times")) (gives_bytes (codes "times") (32 ∷ (decimal n ++ rest)) refl refl refl refl) (times_begins k e) o
    (takes (counting k) (start (times n [] k)) _ rest (numeral false n) (gives_space _ _ _ (gives_natural n rest (omega arith) (inside_part fs ys))) (count_is n k low high) o
    (forms o (takes (start (times n (steps_of fs) k)) (ended (add (copies n (steps_of fs)) k)) (41 ∷ ys) ys closes (gives_close ys) (closes_is n (steps_of fs) k any) o r)))

some_copies : {A : Type 0} (n : ℕ) (ss : List A) → 1 ≤ n → 1 ≤ length ss → 1 ≤ length (copies n ss)
some_copies zero ss h k = absurd (omega arith)
some_copies (suc n) ss h k = omega (arith, length-append ss (copies n ss))

some_steps : (d : ℕ) (fs : Forms) → Inner d fs → some fs ≡ true → 1 ≤ length (steps_of fs)
some_steps d end h e = absurd cc
some_steps d (w.call s more) h e = omega arith
some_steps d (w.times n fs more) h e = omega (arith, length-append (copies n (steps_of fs)) (steps_of more), some_copies n (steps_of fs) h.1 (some_steps (d - 1) fs h.4 h.3))

-- a bracket may open inside a `times`
opens_inside : (n : ℕ) (ss : List Said) (k : Open) → 1 + depth k < 16 → fit (start (times n ss k)) opens ≡ Some (opened (times n ss k))
unfolding fit
opens_inside n ss k h = cond-true (ltb (1 + depth k) 16) (Some (opened (times n ss k))) None (lt-ltb (1 + depth k) 16 h)

-- the forms inside a `times`
inside_brings : (fs : Forms) (d n : ℕ) (ss : List Said) (k : Open) (ys : List ℕ) → Inner d fs → 1 + depth k + d ≤ 16 → Brings (start (times n ss k)) (each (codes " ") [] fs ys) (start (times n (ss ++ steps_of fs) k)) ys
inside_brings end d n ss k ys h deep o r = subst (λ (z : List Said). (l c : ℕ) → Reads (start (times n z k)) l c ys o) (append-nil ss) r
inside_brings (w.call s more) d n ss k ys h deep o r =
    let rest = each (codes " ") [] more ys in
    let low = h.0 in
    takes (start (times n ss k)) (opened (times n ss k)) _ (spelled s.verb ++ written_args s.args (41 ∷ rest)) opens (gives_space _ _ _ (gives_open _)) (opens_inside n ss k (omega arith)) o
    (call_brings s (times n ss k) rest (sym h.1.0) h.1.1 o
    (inside_brings more d n (ss ++ s ∷ []) k ys h.2 deep o (subst (λ (z : List Said). (l c : ℕ) → Reads (start (times n z k)) l c ys o) (sym (append_assoc ss (s ∷ []) (steps_of more))) r)))
inside_brings (w.times m fs more) d n ss k ys h deep o r =
    let rest = each (codes " ") [] more ys in
    let low = h.0 in
    let part = copies m (steps_of fs) in
    takes (start (times n ss k)) (opened (times n ss k)) _ (codes "times " ++ (decimal m ++ each (codes " ") [] fs (41 ∷ rest))) opens (gives_space _ _ _ (gives_open _)) (opens_inside n ss k (omega arith)) o
    (times_brings m fs (times n ss k) rest refl h.1 h.2 (some_steps (d - 1) fs h.4 h.3) (inside_brings fs (d - 1) m [] (times n ss k) (41 ∷ rest) h.4 (omega arith)) o
    (inside_brings more d n (ss ++ part) k ys h.5 deep o (subst (λ (z : List Said). (l c : ℕ) → Reads (start (times n z k)) l c ys o) (sym (append_assoc ss part (steps_of more))) r)))

-- Lines

first_not : (s : Said) (d more : List Said) → first (bottom ((s ∷ d) ++ more)) ≡ false
first_not s d more = refl

-- the lines behind the first form
lines_bring : (fs : Forms) (s : Said) (d : List Said) → Inner 16 fs → Brings (start (bottom (s ∷ d))) (written fs) (start (bottom ((s ∷ d) ++ steps_of fs))) []
unfolding fit
lines_bring end s d h o r = subst (λ (z : List Said). (l c : ℕ) → Reads (start (bottom z)) l c [] o) (append-nil (s ∷ d)) r
lines_bring (w.call t more) s d h o r =
    let rest = written more in
    let k = bottom (s ∷ d) in
    let after = (s ∷ d) ++ t ∷ [] in
    takes (start k) (opened k) _ (spelled t.verb ++ written_args t.args (41 ∷ 10 ∷ rest)) opens (gives_open _) refl o
    (call_brings t k (10 ∷ rest) (sym h.1.0) h.1.1 o
    (takes (over after) (start (bottom after)) (10 ∷ rest) rest line_end (gives_line rest) refl o
    (lines_bring more s (d ++ t ∷ []) h.2 o (subst (λ (z : List Said). (l c : ℕ) → Reads (start (bottom z)) l c [] o) (sym (append_assoc (s ∷ d) (t ∷ []) (steps_of more))) r))))
lines_bring (w.times n fs more) s d h o r =
    let rest = written more in
    let k = bottom (s ∷ d) in
    let part = copies n (steps_of fs) in
    let after = (s ∷ d) ++ part in
    takes (start k) (opened k) _ (codes "times " ++ (decimal n ++ each (codes " ") [] fs (41 ∷ 10 ∷ rest))) opens (gives_open _) refl o
    (times_brings n fs k (10 ∷ rest) refl h.1 h.2 (some_steps 15 fs h.4 h.3) (inside_brings fs 15 n [] k (41 ∷ 10 ∷ rest) h.4 (omega arith)) o
    (takes (over after) (start (bottom after)) (10 ∷ rest) rest line_end (gives_line rest) refl o
    (lines_bring more s (d ++ part) h.5 o (subst (λ (z : List Said). (l c : ℕ) → Reads (start (bottom z)) l c [] o) (sym (append_assoc (s ∷ d) part (steps_of more))) r))))

-- a script that is written comes to its steps
pub written_whole : (fs : Forms) → Opened fs → Whole (written fs) (done (steps_of fs))
unfolding fit
written_whole end h = finished
written_whole (w.call s more) h =
    let rest = written more in
    let o = done (s ∷ steps_of more) in
    takes (start (bottom [])) (opened (bottom [])) _ (spelled s.verb ++ written_args s.args (41 ∷ 10 ∷ rest)) opens (gives_open _) refl o
    (call_brings s (bottom []) (10 ∷ rest) (sym h.0.0) h.0.1 o
    (takes (over (s ∷ [])) (start (bottom (s ∷ []))) (10 ∷ rest) rest line_end (gives_line rest) refl o
    (lines_bring more s [] h.1 o (λ l c. finished)))) 1 1
written_whole (w.times n fs more) h = absurd h
