-- From the tokens of a form to what it says, and from the steps to what the plan holds.
use Rattle.std.proofs.Common.{◌≡◌, ℕ, zero, suc, ◌+◌, ◌-◌, ◌<◌, ◌≤◌, Bool, true, false, cond, not, ltb, List, [], ◌∷◌, ◌++◌, Some, None, Ok, Err, codes, Option, Result, sym, refl, ap, ◌∙◌, arith}
use Rattle.std.specs.Str.{bytes_eq}
use mathlib.Core.Bool.{beq}
use Rattle.std.proofs.lemmas.Bool.Decides.{nat_tests}
use Rattle.scan.specs.declared.types.Verb.{Verb}
use Rattle.scan.specs.declared.types.Step.{Step}
use Rattle.scan.specs.declared.types.ReaderFault.{ReaderFault}
use Rattle.scan.specs.declared.reader.Reader.{Reader}
use Rattle.script.specs.declared.forms.Expander.{Expander}
use Rattle.scan.specs.Tokens.{Tok, numeral, opens, closes, word, text, line_end, none}
use Rattle.scan.specs.Words.{Said, said_of, verb_of, word_of, is_open, natural_of, within, is_opens, is_closes, bind}
use Rattle.scan.specs.Forms.{copies, Open, times, depth, first, add, start, opened, counting, ended}
use Rattle.scan.specs.Taking.{said_step, some, head_of, head_word, headed, inside_of, PicksFrom, ahead, left, LeadsAt, GoesOn}
use Rattle.script.specs.Plans.{with_more, nothing, size, part, fresh, Pushes, Repeats, Formed, ReadsForm, Filled}
use Rattle.scan.proofs.Steps.{fits_head, fits_count, fits_inside, goes_on}
use Rattle.script.proofs.Kept.{more_more, nothing_more, repeated, some_append}
use Rattle.script.proofs.Onward.{leads_to}

depth_test : (a b : ℕ) → a + b ≡ 15 → ltb (1 + a) 16 ≡ ltb 0 b
depth_test a b e = grind (arith, nat_tests)

module _ (k : Open) (b : Bool) (e : first k ≡ b) (X : Reader) where
  pub head_on : (r : Result (Option Verb) ReaderFault) (Y : Reader) → PicksFrom (head_of b) (ahead X) r Y → GoesOn (opened k) X r (headed k) Y
  head_on r Y p = goes_on (opened k) (head_of b) (headed k) (fits_head k b e) X r Y p

  pub head_to : (h i : Option Verb) (Y : Reader) → PicksFrom (head_of b) (ahead X) (Ok h) Y → h ≡ i → LeadsAt (opened k) X (headed k i) Y
  head_to h i Y p z = leads_to (opened k) (head_of b) (headed k) (fits_head k b e) X h i Y p z

-- no `times` is the first form
never_word : (c d : Bool) (v : Verb) → cond c (Some (Some v)) None ≡ Some None → d ≡ false
never_word true d v h = absurd cc
never_word false d v h = absurd cc

never_times : (c d : Bool) (o : Option Verb) → cond c None (bind o (λ v. cond (beq true (is_open v)) (Some (Some v)) None)) ≡ Some None → d ≡ false
never_times true d o h = absurd cc
never_times false d None h = absurd cc
never_times false d (Some v) h = never_word (beq true (is_open v)) d v h

times_later : (b : Bool) (o : Option (List ℕ)) → bind o (head_word b) ≡ Some None → b ≡ false
times_later false o h = refl
times_later true None h = absurd cc
times_later true (Some w) h = never_times (bytes_eq w (codes "times")) true (verb_of w) h

pub head_later : (b : Bool) (X : Reader) (h : Option Verb) (Y : Reader) → PicksFrom (head_of b) (ahead X) (Ok h) Y → h ≡ None → b ≡ false
head_later b X h Y p e = times_later b (word_of (ahead X).tok) (p.0 ∙ ap (λ (z : Option Verb). Some z) e)

module _ (n : ℕ) (ss : List Said) (k : Open) (inner : ℕ) (empty : Bool) (deep : depth k + inner ≡ 15) (any : some ss ≡ not empty) (X : Reader) where
  pub inside_on : (r : Result Bool ReaderFault) (Y : Reader) → PicksFrom (inside_of (ltb 0 inner) (not empty)) (ahead X) r Y → GoesOn (start (times n ss k)) X r (λ b. cond b (opened (times n ss k)) (ended (add (copies n ss) k))) Y
  inside_on r Y p = goes_on (start (times n ss k)) (inside_of (ltb 0 inner) (not empty)) (λ b. cond b (opened (times n ss k)) (ended (add (copies n ss) k))) (fits_inside n ss k (ltb 0 inner) (not empty) (depth_test (depth k) inner deep) any) X r Y p

  pub inside_to : (b c : Bool) (Y : Reader) → PicksFrom (inside_of (ltb 0 inner) (not empty)) (ahead X) (Ok b) Y → b ≡ c → LeadsAt (start (times n ss k)) X (cond c (opened (times n ss k)) (ended (add (copies n ss) k))) Y
  inside_to b c Y p z = leads_to (start (times n ss k)) (inside_of (ltb 0 inner) (not empty)) (λ b. cond b (opened (times n ss k)) (ended (add (copies n ss) k))) (fits_inside n ss k (ltb 0 inner) (not empty) (depth_test (depth k) inner deep) any) X b c Y p z

some_copies : (n : ℕ) (ss : List Said) → 1 ≤ n → some ss ≡ true → some (copies n ss) ≡ true
some_copies zero ss h e = absurd (omega arith)
some_copies (suc n) [] h e = absurd cc
some_copies (suc n) (s ∷ ss) h e = refl

close_by : (o c p q : Bool) (b : Bool) → cond p (cond o (Some true) None) (cond q (cond c (Some false) None) None) ≡ Some b → b ≡ false → c ≡ true
close_by o true p q b h e = refl
close_by true false true q b h e = absurd cc
close_by false false true q b h e = absurd cc
close_by o false false true b h e = absurd cc
close_by o false false false b h e = absurd cc

within_low : (low high n m : ℕ) → within low high n ≡ Some m → low ≤ m
within_low low high n m h = grind (arith, nat_tests)

natural_low : (low high : ℕ) (t : Tok) (m : ℕ) → natural_of low high t ≡ Some m → low ≤ m
natural_low low high opens m h = absurd cc
natural_low low high closes m h = absurd cc
natural_low low high (numeral true n) m h = absurd cc
natural_low low high (numeral false n) m h = within_low low high n m h
natural_low low high (word w) m h = absurd cc
natural_low low high (text w) m h = absurd cc
natural_low low high line_end m h = absurd cc
natural_low low high none m h = absurd cc

-- before the first form of a `times`
pub filled_none : (inner : ℕ) (E : Expander) → fresh E ≡ false → Filled inner true E E
filled_none inner E later = record { steps = []; any = refl; leads = λ n k h o r. r; grows = refl; later = later; shorter = omega arith }

module _ (inner : ℕ) (empty : Bool) (E F : Expander) (f : Filled inner empty E F) (b : Bool) (Z : Reader) (picks : PicksFrom (inside_of (ltb 0 inner) (not empty)) (ahead F.reader) (Ok b) Z) where
  -- one more form
  pub filled_more : (G : Expander) → b ≡ true → 0 < inner → Formed (inner - 1) (record { reader = Z; plan = F.plan }) G → left Z ≤ left F.reader → left G.reader ≤ left Z → Filled inner false E G
  filled_more G z low g short shorter = record {
    steps = f.steps ++ g.steps;
    any = some_append f.steps g.steps g.any;
    leads = λ count k h o x. f.leads count k h o (inside_to count f.steps k inner empty h f.any F.reader b true Z picks z o (g.leads (times count f.steps k) (omega arith) (sym f.later) o x));
    grows = g.grows ∙ ap (λ (w : Option (List Said)). with_more w g.steps) f.grows ∙ more_more E.plan f.steps g.steps;
    later = ap nothing g.grows ∙ nothing_more F.plan g.steps g.any;
    shorter = omega (arith, f.shorter);
  }

  -- the closing bracket
  pub filled_end : (count : ℕ) (k : Open) → depth k + inner ≡ 15 → b ≡ false → LeadsAt (start (times count [] k)) E.reader (ended (add (copies count f.steps) k)) Z
  filled_end count k h z o x = f.leads count k h o (inside_to count f.steps k inner empty h f.any F.reader b false Z picks z o x)

  pub filled_any : b ≡ false → some f.steps ≡ true
  filled_any z = f.any ∙ close_by (ltb 0 inner) (not empty) (is_opens (ahead F.reader).tok) (is_closes (ahead F.reader).tok) b picks.0 z

-- the count of a `times`
pub count_on : (k : Open) (X : Reader) (r : Result ℕ ReaderFault) (Y : Reader) → PicksFrom (natural_of 1 1000) (ahead X) r Y → GoesOn (counting k) X r (λ n. start (times n [] k)) Y
count_on k X r Y p = goes_on (counting k) (natural_of 1 1000) (λ n. start (times n [] k)) (fits_count k) X r Y p

pub count_low : (X : Reader) (n : ℕ) (Y : Reader) → PicksFrom (natural_of 1 1000) (ahead X) (Ok n) Y → 1 ≤ n
count_low X n Y p = natural_low 1 1000 (ahead X).tok n p.0

-- the word `times` and its count
pub times_begun : (k : Open) (b : Bool) → first k ≡ b → (X : Reader) (h : Option Verb) (Y : Reader) → PicksFrom (head_of b) (ahead X) (Ok h) Y → h ≡ None → (n : ℕ) (Z : Reader) → PicksFrom (natural_of 1 1000) (ahead Y) (Ok n) Z → LeadsAt (opened k) X (start (times n [] k)) Z
times_begun k b e X h Y p z n Z q o r = head_to k b e X h None Y p z o (count_on k Y (Ok n) Z q o r)

-- a `times` whose closing bracket has been read
pub times_formed : (res : Result (Unit {0}) ReaderFault) (inner count : ℕ) (E F G : Expander) (ss : List Said) →
    ((k : Open) → depth k + inner ≡ 15 → first k ≡ fresh E → LeadsAt (opened k) E.reader (ended (add (copies count ss) k)) G.reader) →
    F.plan ≡ with_more E.plan ss → some ss ≡ true → 1 ≤ count → Repeats res F.plan G.plan (size E.plan) count → ReadsForm res inner E G
times_formed (Ok u) inner count E F G ss on grows any low rep = record {
  steps = copies count ss;
  any = some_copies count ss low any;
  leads = on;
  grows = rep ∙ ap (λ (h : Option (List Said)). with_more h (copies (count - 1) (part (size E.plan) (size h) h))) grows ∙ repeated E.plan ss count low;
}
times_formed (Err f) inner count E F G ss on grows any low rep = λ n. absurd (n rep)

-- a call whose closing bracket has been read
pub call_formed : (res : Result (Unit {0}) ReaderFault) (inner : ℕ) (E G : Expander) (s : Step) →
    ((k : Open) → depth k + inner ≡ 15 → first k ≡ fresh E → LeadsAt (opened k) E.reader (said_step k s) G.reader) → Pushes res E.plan G.plan (said_of s ∷ []) → ReadsForm res inner E G
call_formed (Ok u) inner E G s on grows = record { steps = said_of s ∷ []; any = refl; leads = on; grows = grows }
call_formed (Err f) inner E G s on e = λ n. absurd (n e)
