-- A settle keeps copies and memory true; the one tagged memory serves the word at the same time.
use Rattle.std.proofs.Common.{◌≡◌, ℕ, ◌%◌, ◌<◌, Bool, true, false, cond, sym, refl, ap, ◌∙◌, ⊎_elim, arith, not, eqb}
use Rattle.std.proofs.lemmas.Bool.Decides.{nat_tests}
use Rattle.std.proofs.lemmas.Bool.{cases_eq, ne_eqb, both_ways, cond-true, cond-false, cond_both, and_right, cases_Bool, and_left, and_parts}
use Rattle.protocol.specs.Rules.{Rules, Lawful}
use Rattle.tagged.specs.Operations.{claims}
use Rattle.tagged.specs.Rule.{done_by}
use Rattle.tagged.specs.declared.operations.Operation.{Operation}
use Rattle.tagged.specs.declared.words.Word.{Word}
use Rattle.promises.specs.Board.{Content, word_in, with_word_in, Frame, Tenure, own_copy, read_in, claimed, snooped, State, line_of}
use Rattle.promises.specs.Copies.{copy, keeps, owns, owes}
use Rattle.promises.specs.Steps.{updated, settled_state, settle_state, victim, victim_owes, memory_without_victim}
use Rattle.promises.specs.OneMemory.{line_by_words}
use Rattle.promises.proofs.Contents.{updated_other, changed, changed_content, changed_other, updated_back, updated_same}
use Rattle.promises.proofs.Frames.{kept_of, keeps_by}
use Rattle.promises.proofs.Copies.{claiming, Copies, owes_same, owns_keeps}
use Rattle.promises.proofs.Tenures.{Hits, Reads, Claims}
use Rattle.promises.proofs.Putting.{Put, put_copies}
use Rattle.promises.proofs.InPlace.{claim_owes, changed_in_place}

-- an operation that is no claim leaves the word
pub unclaimed_word : (o : Operation) (x : Word) (v : ℕ) → claims o ≡ false → (done_by o x v).word ≡ x
unclaimed_word o x v e = grind arith

-- the words after a done operation on word w
abbrev pub served : (ℕ → Word) → Operation → ℕ → ℕ → ℕ → Word
served T o w v = changed T (λ x. (done_by o x v).word) w

module _ (r : Rules) (law : Lawful r) (T : ℕ → Word) (s : State) (t : Tenure) (was : Copies r T s) (core : t.core < 8) where
  abbrev n : ℕ
  n = line_of t.entry.word

  abbrev o : Operation
  o = t.entry.operation

  abbrev T' : ℕ → Word
  T' = served T o t.entry.word t.entry.value

  abbrev serve : Word → Word
  serve x = (done_by o x t.entry.value).word

  -- KIND 0
  pub settle_hit : s.bus ≡ snooped t own_copy → Hits r s t → Copies r T' (settle_state r s t own_copy)
  settle_hit bus hits =
      changed_in_place r law T s t.core t.entry.word serve (claims o) (settle_state r s t own_copy) was hits.kept hits.sole
      (unclaimed_word o (T t.entry.word) t.entry.value)
      (λ d j. refl) (λ m. refl) (λ m quiet. ap (λ b. claiming b m) bus)

  -- KINDS 1 AND 2: another line in the frame goes first
  abbrev out : Frame
  out = victim r s t

  -- the frame's line, if it is another and kept
  out_kept : r.kept out.code ≡ true → keeps r s t.core out.line ≡ true
  out_kept k =
      let place : out.line % 16 ≡ n % 16 = was.placed t.core (n % 16) k in
      let same : copy s t.core out.line ≡ out = ap (s.frame t.core) place in
      keeps_by r s t.core out.line (record { core = core; line = ap (λ (f : Frame). f.line) same; code = ap (λ (f : Frame). r.kept f.code) same ∙ k })

  -- what memory holds once that line is written: every line that nobody else owes
  out_memory : (m : ℕ) → (m ≡ n → keeps r s t.core n ≡ true → ⊥) → ((d : ℕ) → ((d ≡ t.core) × (m % 16 ≡ n % 16) → ⊥) → owes r s d m ≡ false) → claiming s.bus m ≡ false → memory_without_victim r s t m ≡ line_by_words T m
  out_memory m own_not others quiet =
      cond_both (victim_owes r s t) (updated s.memory out.line out.content) s.memory (λ (f : ℕ → Content). f m ≡ line_by_words T m)
      (λ e.
      let q = and_parts (r.kept out.code) _ (and_parts (not (eqb out.line n)) _ e).1 in
      ⊎_elim
      (λ same.
      ap (updated s.memory out.line out.content) same
      ∙ updated_same s.memory out.line out.content
      ∙ sym (ap (λ j. (s.frame t.core j).content) (was.placed t.core (n % 16) q.0))
      ∙ was.true_copies t.core out.line (out_kept q.0)
      ∙ ap (line_by_words T) (sym same))
      (λ ne. updated_other s.memory out.line m out.content ne ∙ was.true_memory m (unowed (λ place k. absurd (ne (sym (held place k))))) quiet)
      (cases_eq m out.line))
      (λ e. was.true_memory m (unowed (λ place k. grind (arith, nat_tests, e, own_not, held place k, kept_of r s t.core m k))) quiet)
    where
      -- at this frame the own core keeps no line but the frame's
      held : m % 16 ≡ n % 16 → keeps r s t.core m ≡ true → out.line ≡ m
      held place k = sym (ap (λ j. (s.frame t.core j).line) place) ∙ (kept_of r s t.core m k).line

      unowed : (m % 16 ≡ n % 16 → keeps r s t.core m ≡ true → r.owing out.code ≡ false) → (d : ℕ) → owes r s d m ≡ false
      unowed paid d =
          ⊎_elim
          (λ same. ⊎_elim (λ place. ap (λ x. owes r s x m) same ∙ ⊎_elim (λ k. and_right (keeps r s t.core m) _ (ap (λ j. r.owing (s.frame t.core j).code) place ∙ paid place k)) (λ no_copy. and_left (keeps r s t.core m) _ no_copy) (cases_Bool (keeps r s t.core m))) (λ apart. others d (λ both. apart both.1)) (cases_eq (m % 16) (n % 16)))
          (λ ne. others d (λ both. ne both.0))
          (cases_eq d t.core)

  -- the fetched line f is put in, with this code unless the operation is a claim
  module _ (f : Content) (fill : ℕ) (line : f ≡ line_by_words T n) (fill_fits : fill < 256) where
    abbrev fetched_state : State
    fetched_state = settled_state r s t f n fill (memory_without_victim r s t)

    abbrev fetched_code : ℕ
    fetched_code = cond (claims o) r.own_claim fill

    abbrev fetched_content : Content
    fetched_content = with_word_in f t.entry.word (done_by o (word_in f t.entry.word) t.entry.value).word

    fetched_frame : copy fetched_state t.core n ≡ record { code = fetched_code; line = n; content = fetched_content }
    fetched_frame = grind (arith, nat_tests)

    fetched_other : (d m : ℕ) → ((d ≡ t.core) × (m % 16 ≡ n % 16) → ⊥) → copy fetched_state d m ≡ copy s d m
    fetched_other d m apart = grind (arith, nat_tests)

    abbrev Fetch : Type 0
    Fetch = Put r T T' s t.core n fetched_code fetched_content fetched_state

    -- both kinds put the same in, and differ in what is known of the other copies and of memory
    fetch : ((d : ℕ) → (d ≡ t.core → ⊥) → keeps r s d n ≡ true → line_by_words T' n ≡ line_by_words T n) → (r.sole fetched_code ≡ true → (d : ℕ) → (d ≡ t.core → ⊥) → keeps r s d n ≡ true → ⊥) → ((d : ℕ) → (d ≡ t.core → ⊥) → owns r s d n ≡ true → ⊥) → ((m : ℕ) → ((d : ℕ) → owes r fetched_state d m ≡ false) → claiming fetched_state.bus m ≡ false → fetched_state.memory m ≡ line_by_words T' m) → Fetch
    fetch shared only unowned remembered = record {
      frames = λ d j. refl;
      code_fits = grind (arith, law.own_fits);
      true_content = changed_content T serve t.entry.word f line;
      other_lines = changed_other T serve t.entry.word;
      shared_line = shared;
      only = only;
      no_owner = unowned;
      true_memory = remembered;
    }

    others_paid : (m : ℕ) → ((d : ℕ) → owes r fetched_state d m ≡ false) → (d : ℕ) → ((d ≡ t.core) × (m % 16 ≡ n % 16) → ⊥) → owes r s d m ≡ false
    others_paid m none d apart = sym (owes_same r fetched_state s d m (fetched_other d m apart)) ∙ none d

    -- KIND 1
    pub settle_read : (shared : Bool) → s.bus ≡ snooped t (read_in shared f) → fill ≡ r.read_fill shared → Reads r T s t shared f → Copies r T' fetched_state
    settle_read shared bus is reads = put_copies r T T' s t.core n fetched_code fetched_content fetched_state was put
      where
        c : claims o ≡ false
        c = reads.read

        same : T' ≡ T
        same = updated_back T t.entry.word _ (unclaimed_word o (T t.entry.word) t.entry.value c)

        code : fetched_code ≡ r.read_fill shared
        code = cond-false _ _ _ c ∙ is

        put : Fetch
        put =
            fetch (λ d ne k. ap (λ X. line_by_words X n) same)
            (λ e d ne k.
            ⊎_elim
            (λ sh. both_ways _ law.fill_not_sole (ap (λ b. r.sole (r.read_fill b)) (sym sh) ∙ sym (ap r.sole code) ∙ e))
            (λ alone. reads.unshared alone d k)
            (cases_Bool shared))
            (λ d ne own. reads.none_sole d own)
            (λ m none quiet. out_memory m (λ e k. reads.own k) (others_paid m none) (ap (λ b. claiming b m) bus) ∙ ap (λ X. line_by_words X m) (sym same))

    -- KIND 2
    pub settle_claim : s.bus ≡ snooped t (claimed f) → Claims r T s t f → Copies r T' fetched_state
    settle_claim bus taken = put_copies r T T' s t.core n fetched_code fetched_content fetched_state was put
      where
        c : claims o ≡ true
        c = taken.claim

        put : Fetch
        put =
            fetch (λ d ne k. absurd (taken.others d ne k)) (λ e d ne k. taken.others d ne k) (λ d ne own. taken.others d ne (owns_keeps r s d n own))
            (λ m none quiet.
            ⊎_elim
            (λ e. absurd (both_ways _ (none t.core) (ap (owes r fetched_state t.core) e ∙ claim_owes r law fetched_state t.core n fetched_content core (fetched_frame ∙ ap (λ k. record { code = k; line = n; content = fetched_content }) (cond-true _ _ _ c)))))
            (λ ne.
            out_memory m (λ e k. ne e) (others_paid m none) (ap (λ b. claiming b m) bus ∙ ne_eqb n m (λ e. ne (sym e)))
            ∙ sym (changed_other T serve t.entry.word m ne))
            (cases_eq m n))
