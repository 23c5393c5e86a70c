-- What a snooped tenure has found stays true, and a settle keeps copies and memory true.
use Rattle.std.proofs.lemmas.Bool.Decides.{nat_tests}
use Rattle.std.proofs.Common.{◌≡◌, ℕ, Bool, true, false, not, eqb, sym, refl, ap, ◌∙◌, arith, ◌%◌}
use Rattle.std.proofs.lemmas.Bool.{ne_eqb, not_from_false, and_parts, and_from, and_left, both_ways, cond-false, cond_both, and_right, not_from_true, eq-eqb}
use Rattle.protocol.specs.Rules.{Rules, Lawful}
use Rattle.tagged.specs.Operations.{claims, class_of}
use Rattle.tagged.specs.Rule.{met, unmet_outcome}
use Rattle.tagged.specs.declared.operations.Operation.{Operation}
use Rattle.tagged.specs.declared.words.Word.{Word}
use Rattle.tagged.specs.declared.words.WordState.{WordState}
use Rattle.promises.specs.Board.{Content, word_in, Tenure, Found, own_copy, read_in, claimed, unmet, Bus, free, granted, snooped, State, line_of}
use Rattle.promises.specs.Copies.{copy, keeps, owns, others_keep, any_core, supplied, stands}
use Rattle.tagged.specs.declared.operations.Class.{Class}
use Rattle.promises.specs.Steps.{gives_up, own_suffices, fetches, snoop_met, snoop_found, snoop_state}
use Rattle.promises.specs.OneMemory.{line_by_words, is_done, is_answer}
use Rattle.promises.proofs.Contents.{line_word}
use Rattle.promises.proofs.Frames.{kept_of, keeps_same, any_from}
use Rattle.promises.proofs.Copies.{claiming, Copies, Fewer, owns_keeps}
use Rattle.promises.proofs.Standing.{TravelsTrue, stands_true, fetched_true}
use Rattle.promises.proofs.Snooping as snooping

-- kind 0: the own copy suffices
pub record Hits (r : Rules) (s : State) (t : Tenure) : Type 0 where
  pub kept : keeps r s t.core (line_of t.entry.word) ≡ true
  pub sole : claims t.entry.operation ≡ true → r.sole (copy s t.core (line_of t.entry.word)).code ≡ true

-- kind 1: the line is on its way to be read
pub record Reads (r : Rules) (T : ℕ → Word) (s : State) (t : Tenure) (shared : Bool) (f : Content) : Type 0 where
  pub line : f ≡ line_by_words T (line_of t.entry.word)
  pub own : keeps r s t.core (line_of t.entry.word) ≡ true → ⊥
  pub none_sole : (d : ℕ) → owns r s d (line_of t.entry.word) ≡ true → ⊥
  pub unshared : shared ≡ false → (d : ℕ) → keeps r s d (line_of t.entry.word) ≡ true → ⊥
  pub read : claims t.entry.operation ≡ false

-- kind 2: the line is on its way to be claimed
pub record Claims (r : Rules) (T : ℕ → Word) (s : State) (t : Tenure) (f : Content) : Type 0 where
  pub line : f ≡ line_by_words T (line_of t.entry.word)
  pub others : (d : ℕ) → (d ≡ t.core → ⊥) → keeps r s d (line_of t.entry.word) ≡ true → ⊥
  pub own : owns r s t.core (line_of t.entry.word) ≡ true → ⊥
  pub claim : claims t.entry.operation ≡ true

-- the one tagged memory's word meets the condition
abbrev pub Met : (ℕ → Word) → Tenure → Type 0
Met T t = met t.entry.operation (T t.entry.word).state ≡ true

abbrev pub FoundTrue : Rules → (ℕ → Word) → State → Tenure → Found → Type 0
FoundTrue r T s t own_copy = Hits r s t × Met T t
FoundTrue r T s t (read_in shared f) = Reads r T s t shared f × Met T t
FoundTrue r T s t (claimed f) = Claims r T s t f × Met T t
FoundTrue r T s t (unmet o found) = is_done o ≡ false

abbrev pub BusTrue : Rules → (ℕ → Word) → State → Bus → Type 0
BusTrue r T s free = Unit {0}
BusTrue r T s (granted t) = Unit {0}
BusTrue r T s (snooped t f) = FoundTrue r T s t f

pub travels_true : (r : Rules) (T : ℕ → Word) (s : State) (b : Bus) → BusTrue r T s b → TravelsTrue T b
travels_true r T s b h = grind arith

-- an unmet operation is not done
pub unmet_undone : (o : Operation) (x : WordState) → met o x ≡ false → is_done (unmet_outcome (class_of o)) ≡ false
unmet_undone o x e = grind arith

-- and it is answered in the classes that do not wait
pub answers_gives_up : (x : Class) → is_done (unmet_outcome x) ≡ false → is_answer (unmet_outcome x) ≡ gives_up x
answers_gives_up x e = grind arith

-- the copies of line m are kept with the same codes in both states
pub record Like (r : Rules) (s t : State) (m : ℕ) : Type 0 where
  pub kept : (d : ℕ) → keeps r t d m ≡ keeps r s d m
  pub code : (d : ℕ) → keeps r s d m ≡ true → (copy t d m).code ≡ (copy s d m).code

-- what was found stays true where the line's copies, the line and the word's state stay
module _ (r : Rules) (T T' : ℕ → Word) (s s' : State) (t : Tenure) (like : Like r s s' (line_of t.entry.word)) (line : line_by_words T' (line_of t.entry.word) ≡ line_by_words T (line_of t.entry.word)) (word : T' t.entry.word ≡ T t.entry.word) where
  pub found_like : (f : Found) → FoundTrue r T s t f → FoundTrue r T' s' t f
  found_like own_copy h = grind (arith, nat_tests)
  found_like (read_in shared f) h = grind (arith, nat_tests)
  found_like (claimed f) h = grind (arith, nat_tests)
  found_like (unmet o found) h = h

-- SNOOP finds what is true
module _ (r : Rules) (law : Lawful r) (T : ℕ → Word) (s : State) (t : Tenure) (was : Copies r T s) (line : TravelsTrue T s.bus) (quiet : (m : ℕ) → claiming s.bus m ≡ false) where
  abbrev n : ℕ
  n = line_of t.entry.word

  abbrev after : State
  after = snoop_state r s t

  word_stands : word_in (stands r s n) t.entry.word ≡ T t.entry.word
  word_stands = ap (λ f. word_in f t.entry.word) (stands_true r T s was line n) ∙ line_word T t.entry.word

  is_met : snoop_met r s t ≡ true → Met T t
  is_met e = sym (ap (λ (x : Word). met t.entry.operation x.state) word_stands) ∙ e

  -- what the snoop finds unmet is unmet in the one tagged memory
  pub snoop_not_met : snoop_met r s t ≡ false → met t.entry.operation (T t.entry.word).state ≡ false
  snoop_not_met e = sym (ap (λ (x : Word). met t.entry.operation x.state) word_stands) ∙ e

  -- nothing moves where nothing is fetched
  still : fetches r s t ≡ false → (d m : ℕ) → copy after d m ≡ copy s d m
  still e d m = cond-false _ _ _ (and_left (fetches r s t) _ e)

  abbrev fewer : Fewer r s after
  fewer = snooping.snoop_fewer r law T s t was

  hits : own_suffices r s t ≡ true → fetches r s t ≡ false → Hits r after t
  hits e f =
      let same = still f t.core n in
      record { kept = grind (arith, keeps_same r after s t.core n same); sole = λ c. grind arith }

  -- the requester's own frame does not move
  own_still : (m : ℕ) → copy after t.core m ≡ copy s t.core m
  own_still m = cond-false _ _ _ (and_right (fetches r s t) _ (and_right (eqb (m % 16) (n % 16)) _ (and_left (not (eqb t.core t.core)) _ (not_from_true _ (eq-eqb t.core t.core refl)))))

  reads : fetches r s t ≡ true → claims t.entry.operation ≡ false → Reads r T after t (any_core (others_keep r s t.core n)) (supplied r s n (s.memory n))
  reads f c =
      let apart : (d : ℕ) → keeps r s d n ≡ true → d ≡ t.core → ⊥ = λ d k same. both_ways _ (snooping.read_own r law T s t was f c) (ap (λ x. keeps r s x n) (sym same) ∙ k) in
      record {
        line = fetched_true r T s was n (quiet n);
        own = λ k. apart t.core (fewer.kept t.core n k) refl;
        none_sole = λ d own.
            let old = owns_keeps r s d n (fewer.sole d n own) in
            snooping.heard_not_sole r law T s t was d f c (apart d old) old (and_parts (keeps r after d n) _ own).1;
        unshared = λ none d k.
            let old = fewer.kept d n k in
            both_ways _ none (any_from (others_keep r s t.core n) d (kept_of r s d n old).core (and_from (not (eqb d t.core)) _ (not_from_false _ (ne_eqb _ _ (apart d old))) old));
        read = c;
      }

  takes : fetches r s t ≡ true → claims t.entry.operation ≡ true → Claims r T after t (supplied r s n (s.memory n))
  takes f c =
      let unfit : own_suffices r s t ≡ false = grind arith in
      record {
        line = fetched_true r T s was n (quiet n);
        others = λ d ne k. snooping.heard_not_kept r law T s t was d f c ne (fewer.kept d n k) k;
        own = λ o. grind (arith, unfit, fewer.sole t.core n o);
        claim = c;
      }

  pub snoop_finds : FoundTrue r T after t (snoop_found r s t)
  snoop_finds =
      cond_both (snoop_met r s t) _ _ (FoundTrue r T after t)
      (λ m.
      cond_both (own_suffices r s t) _ _ (FoundTrue r T after t)
      (λ e. (hits e (grind arith), is_met m))
      (λ e.
      let f : fetches r s t ≡ true = grind arith in
      cond_both (claims t.entry.operation) _ _ (FoundTrue r T after t) (λ c. (takes f c, is_met m)) (λ c. (reads f c, is_met m))))
      (λ m. unmet_undone t.entry.operation _ m)
