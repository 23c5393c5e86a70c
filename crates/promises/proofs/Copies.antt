-- Copies and memory hold the one tagged memory's lines: what calls that do not serve a word keep of that.
use Rattle.promises.proofs.Contents.{updated_same, updated_other}
use Rattle.std.proofs.Common.{◌≡◌, ℕ, ◌%◌, ◌<◌, Bool, true, false, ◌&&◌, eqb, ◌⊎◌, sym, refl, ap, ◌∙◌, ⊎_elim, arith}
use Rattle.std.proofs.lemmas.Bool.Decides.{nat_tests}
use Rattle.std.proofs.lemmas.Bool.{cases_eq, cases_Bool, and_left, both_ways, cond-true, cond-false, false_from_ne_true, cond_both, and_right}
use Rattle.protocol.specs.Rules.{Rules, Lawful}
use Rattle.tagged.specs.declared.words.Word.{Word}
use Rattle.promises.specs.Board.{Frame, own_copy, read_in, claimed, unmet, Bus, free, granted, snooped, State, line_of, frame_of, Content}
use Rattle.promises.specs.Copies.{copy, keeps, owns, owes, any_core}
use Rattle.promises.specs.Refusing.{is_free}
use Rattle.promises.specs.Steps.{evicted_state, drained_state, updated, dropped}
use Rattle.promises.specs.OneMemory.{line_by_words}
use Rattle.promises.specs.Promises.{WritersAreAlone}
use Rattle.promises.proofs.Frames.{kept_of, keeps_same, lowest_passes, no_core_passes, frame_cases}

-- line n travels on the bus to be claimed
abbrev pub claiming : Bus → ℕ → Bool
claiming free n = false
claiming (granted t) n = false
claiming (snooped t own_copy) n = false
claiming (snooped t (read_in shared f)) n = false
claiming (snooped t (claimed f)) n = eqb (line_of t.entry.word) n
claiming (snooped t (unmet o found)) n = false

-- the words of the one tagged memory are T
pub record Copies (r : Rules) (T : ℕ → Word) (s : State) : Type 0 where
  pub codes : (c i : ℕ) → (s.frame c i).code < 256
  pub placed : (c i : ℕ) → r.kept (s.frame c i).code ≡ true → (s.frame c i).line % 16 ≡ i
  pub true_copies : (c n : ℕ) → keeps r s c n ≡ true → (copy s c n).content ≡ line_by_words T n
  pub alone : WritersAreAlone r s
  pub true_memory : (n : ℕ) → ((c : ℕ) → owes r s c n ≡ false) → claiming s.bus n ≡ false → s.memory n ≡ line_by_words T n

-- what is kept in t was kept in s, with the same content, and sole only if it was
pub record Fewer (r : Rules) (s t : State) : Type 0 where
  pub kept : (c n : ℕ) → keeps r t c n ≡ true → keeps r s c n ≡ true
  pub content : (c n : ℕ) → keeps r t c n ≡ true → (copy t c n).content ≡ (copy s c n).content
  pub sole : (c n : ℕ) → owns r t c n ≡ true → owns r s c n ≡ true

module _ (r : Rules) (T : ℕ → Word) (s t : State) (was : Copies r T s) (fewer : Fewer r s t) where
  pub fewer_true : (c n : ℕ) → keeps r t c n ≡ true → (copy t c n).content ≡ line_by_words T n
  fewer_true c n k = grind (arith, nat_tests)

  pub fewer_alone : WritersAreAlone r t
  fewer_alone c d n own k = was.alone c d n (fewer.sole c n own) (fewer.kept d n k)

-- an empty frame keeps nothing
pub keeps_empty : (r : Rules) → Lawful r → (s : State) (c n : ℕ) → (copy s c n).code ≡ 0 → keeps r s c n ≡ true → ⊥
keeps_empty r law s c n e k = both_ways (r.kept 0) law.zero_not_kept (ap r.kept (sym e) ∙ (kept_of r s c n k).code)

pub owns_keeps : (r : Rules) (s : State) (c n : ℕ) → owns r s c n ≡ true → keeps r s c n ≡ true
owns_keeps r s c n e = grind arith

pub owes_keeps : (r : Rules) (s : State) (c n : ℕ) → owes r s c n ≡ true → keeps r s c n ≡ true
owes_keeps r s c n e = grind arith

-- a frame keeps one line
pub one_line : (r : Rules) (s : State) (c n m : ℕ) → keeps r s c n ≡ true → keeps r s c m ≡ true → n % 16 ≡ m % 16 → n ≡ m
one_line r s c n m k l e = sym (kept_of r s c n k).line ∙ ap (λ j. (s.frame c j).line) e ∙ (kept_of r s c m l).line

-- the same frame owes in one state as in the other
pub owes_same : (r : Rules) (s t : State) (c n : ℕ) → copy s c n ≡ copy t c n → owes r s c n ≡ owes r t c n
owes_same r s t c n e = λ i. keeps_same r s t c n e i && r.owing (e i).code

pub owns_same : (r : Rules) (s t : State) (c n : ℕ) → copy s c n ≡ copy t c n → owns r s c n ≡ owns r t c n
owns_same r s t c n e = λ i. keeps_same r s t c n e i && r.sole (e i).code

-- what is not kept does not owe
pub not_kept_not_owing : (r : Rules) (s : State) (c n : ℕ) → (keeps r s c n ≡ true → ⊥) → owes r s c n ≡ false
not_kept_not_owing r s c n no_copy = and_left (keeps r s c n) _ (false_from_ne_true _ no_copy)

-- EVICT: the copy of line n in core c is dropped, written first if owing
module _ (r : Rules) (law : Lawful r) (T : ℕ → Word) (s : State) (c w : ℕ) (was : Copies r T s) (kept : keeps r s c (line_of w) ≡ true) where
  after : State
  after = evicted_state r s c w

  place : (d n : ℕ) → ((d ≡ c) × (n % 16 ≡ line_of w % 16) × ((copy after d n).code ≡ 0)) ⊎ (((d ≡ c) × (n % 16 ≡ line_of w % 16) → ⊥) × (copy after d n ≡ copy s d n))
  unfolding after
  place d n = grind (arith, nat_tests)

  unchanged : (d n : ℕ) → keeps r after d n ≡ true → copy after d n ≡ copy s d n
  unchanged d n k = ⊎_elim (λ p. absurd (keeps_empty r law after d n p.2 k)) (λ p. p.1) (place d n)

  evict_fewer : Fewer r s after
  evict_fewer = record {
    kept = λ d n k. sym (keeps_same r after s d n (unchanged d n k)) ∙ k;
    content = λ d n k. ap (λ (f : Frame). f.content) (unchanged d n k);
    sole = λ d n own.
        let e = unchanged d n (owns_keeps r after d n own) in
        sym (owns_same r after s d n e) ∙ own;
  }

  -- a copy that owed still does, unless it is the one that was dropped
  still : (d n : ℕ) → (n ≡ line_of w → d ≡ c → ⊥) → owes r after d n ≡ false → owes r s d n ≡ false
  still d n apart e =
      ⊎_elim
      (λ p. not_kept_not_owing r s d n (λ k. apart (one_line r s c n (line_of w) (ap (λ x. keeps r s x n) (sym p.0) ∙ k) kept p.1) p.0))
      (λ p. sym (owes_same r after s d n p.1) ∙ e)
      (place d n)

  evict_memory : (n : ℕ) → ((d : ℕ) → owes r after d n ≡ false) → claiming s.bus n ≡ false → after.memory n ≡ line_by_words T n
  unfolding after
  evict_memory n none quiet =
      cond_both (r.owing (copy s c (line_of w)).code) (updated s.memory (line_of w) (copy s c (line_of w)).content) s.memory (λ (m : ℕ → Content). m n ≡ line_by_words T n)
      (λ t.
      ⊎_elim
      (λ e. ap (updated s.memory (line_of w) (copy s c (line_of w)).content) e ∙ updated_same s.memory (line_of w) _ ∙ was.true_copies c (line_of w) kept ∙ ap (line_by_words T) (sym e))
      (λ ne. updated_other s.memory (line_of w) n _ ne ∙ elsewhere ne)
      (cases_eq n (line_of w)))
      (λ f.
      ⊎_elim
      (λ e. was.true_memory n (λ d. ⊎_elim (λ same. ap (λ x. owes r s x n) same ∙ ap (owes r s c) e ∙ and_right (keeps r s c (line_of w)) _ f) (λ ne. still d n (λ _ same. ne same) (none d)) (cases_eq d c)) quiet)
      elsewhere
      (cases_eq n (line_of w)))
    where
      elsewhere : (n ≡ line_of w → ⊥) → s.memory n ≡ line_by_words T n
      elsewhere ne = was.true_memory n (λ d. still d n (λ same _. ne same) (none d)) quiet

  pub evict_copies : Copies r T (evicted_state r s c w)
  unfolding after
  evict_copies = record {
    codes = λ d i. ⊎_elim (λ p. rw p.2 (omega arith)) (λ p. rw p.1 (was.codes d i)) (frame_cases s.frame c (frame_of (line_of w)) (dropped (copy s c (line_of w))) d i);
    placed = λ d i k.
        ⊎_elim (λ p. absurd (both_ways (r.kept 0) law.zero_not_kept (sym (ap (λ (f : Frame). r.kept f.code) p.2) ∙ k)))
        (λ p. ap (λ (f : Frame). f.line % 16) p.1 ∙ was.placed d i (sym (ap (λ (f : Frame). r.kept f.code) p.1) ∙ k))
        (frame_cases s.frame c (frame_of (line_of w)) (dropped (copy s c (line_of w))) d i);
    true_copies = fewer_true r T s after was evict_fewer;
    alone = fewer_alone r T s after was evict_fewer;
    true_memory = evict_memory;
  }

-- a free bus claims no line
pub free_claims_none : (b : Bus) (n : ℕ) → is_free b ≡ true → claiming b n ≡ false
free_claims_none free n e = refl
free_claims_none (granted t) n e = refl
free_claims_none (snooped t f) n e = absurd (both_ways false refl e)

-- DRAIN: every copy is dropped, the owing ones written first
module _ (r : Rules) (law : Lawful r) (T : ℕ → Word) (s : State) (was : Copies r T s) (quiet : is_free s.bus ≡ true) where
  none_kept : (c n : ℕ) → keeps r (drained_state r s) c n ≡ true → ⊥
  none_kept c n k = keeps_empty r law (drained_state r s) c n refl k

  pub drain_copies : Copies r T (drained_state r s)
  drain_copies = record {
    codes = λ c i. omega arith;
    placed = λ c i k. absurd (both_ways (r.kept 0) law.zero_not_kept k);
    true_copies = λ c n k. absurd (none_kept c n k);
    alone = λ c d n own k. absurd (none_kept d n k);
    true_memory = λ n none claims.
        ⊎_elim
        (λ t.
        let low = lowest_passes (λ c. owes r s c n) t in
        cond-true _ _ (s.memory n) t ∙ was.true_copies _ n (owes_keeps r s _ n low.0))
        (λ f. cond-false _ _ (s.memory n) f ∙ was.true_memory n (no_core_passes (λ c. owes r s c n) f (λ c e. (kept_of r s c n (owes_keeps r s c n e)).core)) (free_claims_none s.bus n quiet))
        (cases_Bool (any_core (λ c. owes r s c n)));
  }
