-- Settle gives what is due.
use Prim.Native.Nat.{ℕ, ◌≤◌, ◌<◌}
use mathlib.Core.Path.{◌≡◌, refl, sym, ap, ◌∙◌, subst}
use mathlib.Core.Logic.{◌≢◌, ⊎_elim}
use mathlib.Core.Bool.{Bool, true, false, not, cond, false≢true}
use mathlib.Core.Option.{Option, none, some}
use mathlib.Core.List.{List, [], ◌∷◌, ◌++◌}
use native.Mathlib.Decide.{ℕ_discrete, dec_lt}
use native.Mathlib.Omega.{arith}
use lib.Dec.{T as So, T_not, ltb}
use borrow.Author.Tests.{eq-eqb, ne_eqb, ltb-true, ltb-false, not-true}
use Rattle.std.specs.Prelude.{Option as Answered}
use Rattle.layout.specs.Image.{ceiling_of}
use Rattle.layout.specs.Below.{any_below}
use Rattle.layout.specs.Oldest.{oldest_of}
use Rattle.layout.specs.declared.oldest.Oldest.{Oldest}
use Rattle.layout.proofs.BelowLaws.{any-finds}
use Rattle.layout.proofs.Least.{oldest-is}
use Rattle.layout.proofs.Says.{Says, says-lt, says_any, says-itself, says-by, says-not, by-test}
use Rattle.layout.specs.Checks.{unless, answered}
use Rattle.layout.specs.Entries.{fence, stores}
use Rattle.desk.specs.Desk.{session_at, is_idle, is_published, idle_session, unmarked}
use Rattle.desk.specs.declared.state.Phase.{Phase}
use Rattle.desk.specs.declared.state.Phase.TheVariants.{Idle, Active, Sealed, Published}
use Rattle.desk.specs.declared.state.Session.{Session}
use Rattle.desk.specs.declared.state.Desk.{Desk}
use Rattle.desk.proofs.Facts.{NumberIn}
use Rattle.commit.specs.Settle.{settle_fault, settle_entries, end_of, start_below, oldest_reader, waits_b, go_home_entries, settle_refused, settle_done, settle_reply}
use Rattle.desk.specs.declared.reply.StoringReply.{StoringReply}
use Rattle.layout.specs.Told.{wait}
use Rattle.commit.specs.Told.{settle_told}
use Rattle.history.specs.Call.{settle}
use Rattle.history.specs.Desk.{Copy, Desk as Txns, in_the_way, began_first, awaited}
use Rattle.history.specs.Due.{settles, waits, due_of}
use Rattle.history.specs.History.{History}
use Rattle.history.proofs.Copies.{Lowest, first_of?}
use Rattle.claims.proofs.Abstraction.{txn-of, copies_of, pack, abs, abs-put}
use Rattle.claims.proofs.Causes.{tells-cause}
use Rattle.claims.proofs.Simulation.{Sim, Ready}
use Rattle.claims.proofs.Entering.{session-small, session-there, told as says-only}
use Rattle.claims.proofs.SimulateChecks.{Checked, Does, does-refuse, past-four, fits}
use Rattle.claims.proofs.CopyEntries.{homes-copies}

-- ---- the session that settle waits for

-- a session that is not in the way
none_said : {Q : Type 0} → Says false ((◌≢◌ {A = ℕ} 0 0) × Q)
none_said = record { yes = λ e. absurd (false≢true e); no = λ h. absurd (h.0 refl) }

-- the start of a session in the way of an end, by its phase: below c for just those that are active with a start below c
starts-below : (end c clock : ℕ) (p : Phase) (q : ℕ) (cs : List Copy) → NumberIn p clock → c ≤ end
    → Says (in_the_way c (txn-of p q cs)) ((start_below end p ≢ 0) × (start_below end p < c))
starts-below end c clock Idle q cs n l = none_said
starts-below end c clock (Active b) q cs n l =
    by-test (ltb b end)
    (λ t. rw t (says-by (says-lt b c) (λ k. (λ z. omega (arith, n.0), k)) (λ h. h.1)))
    (λ t. rw t (record { yes = λ e. absurd (omega (arith, ltb-true b c e, ltb-false b end t)); no = λ h. absurd (h.0 refl) }))
starts-below end c clock (Sealed m) q cs n l = none_said
starts-below end c clock (Published f) q cs n l = none_said

-- and of the one that began first
starts_first : (M end clock : ℕ) (d : Txns) (p : Phase) (q : ℕ) (cs : List Copy) → NumberIn p clock
    → Says (began_first M d end (txn-of p q cs)) ((start_below end p ≢ 0) × (any_below M (λ u. in_the_way (start_below end p) (d.session u)) ≡ false))
starts_first M end clock d Idle q cs n = none_said
starts_first M end clock d (Active b) q cs n =
    by-test (ltb b end)
    (λ t. rw t (record { yes = λ e. (λ z. omega (arith, n.0), not-true _ e); no = λ h. ap not h.1 }))
    (λ t. rw t none_said)
starts_first M end clock d (Sealed m) q cs n = none_said
starts_first M end clock d (Published f) q cs n = none_said

-- an idle session is not in the way
idle-starts : (end : ℕ) (p : Phase) → is_idle p ≡ true → start_below end p ≡ 0
idle-starts end Idle z = refl
idle-starts end (Active b) z = absurd (false≢true z)
idle-starts end (Sealed n) z = refl
idle-starts end (Published e) z = refl

start-most : (end : ℕ) (p : Phase) → start_below end p ≤ end
start-most end Idle = omega arith
start-most end (Active b) = by-test (ltb b end) (λ t. rw t (omega (arith, ltb-true b end t))) (λ t. rw t (omega arith))
start-most end (Sealed n) = omega arith
start-most end (Published e) = omega arith

passes : (b : Bool) → So b → b ≡ true
passes true t = refl
passes false t = absurd t

-- the oldest reader is the session o, or there is none
abbrev Agrees : Oldest → Option ℕ → Type 0
Agrees b none = b.number ≡ 0
Agrees b (some t) = (b.number ≢ 0) × (b.place ≡ t)

module _ (N M : ℕ) (img : List ℕ) (d : Desk) (h : Ready N M img d) (end : ℕ) where
  -- the start of session t, if it is in the way, and whether it is the one that began first
  abbrev start : ℕ → ℕ
  start t = start_below end (session_at d t).phase

  abbrev first : ℕ → Bool
  first t = began_first M (abs d) end (pack (session_at d t))

  -- no session in the way has a start below b
  abbrev From : ℕ → Type 0
  From b = (u : ℕ) → u < M → start u ≢ 0 → b ≤ start u

  abbrev before : ℕ → ℕ → Bool
  before b u = in_the_way b (pack (session_at d u))

  says-before : (b u : ℕ) → b ≤ end → u < M → Says (before b u) ((start u ≢ 0) × (start u < b))
  says-before b u l lu =
      starts-below end b d.clock (session_at d u).phase (session_at d u).slot (copies_of (session_at d u))
      (h.coherent.session u (session-small N M img d h u lu)).number l

  none_before : (b : ℕ) → b ≤ end → any_below M (before b) ≡ false → From b
  none_before b l e u lu n = go (dec_lt (start u) b)
    where
      go : Dec (start u < b) → b ≤ start u
      go (yes k) = absurd (false≢true (sym e ∙ any-finds (before b) M u lu ((says-before b u l lu).no (n, k))))
      go (no k) = omega arith

  before-none : (b : ℕ) → b ≤ end → From b → any_below M (before b) ≡ false
  before-none b l f =
      says-not (says_any M (λ u. says-itself (before b u)))
      (λ k. let w = (says-before b k.0 l k.1).yes k.2 in omega (arith, w.1, f k.0 k.1 w.0))

  says_first : (t : ℕ) → t < M → Says (first t) ((start t ≢ 0) × From (start t))
  says_first t l =
      let most = start-most end (session_at d t).phase in
      says-by
      (starts_first M end d.clock (abs d) (session_at d t).phase (session_at d t).slot (copies_of (session_at d t))
      (h.coherent.session t (session-small N M img d h t l)).number)
      (λ k. (k.0, none_before (start t) most k.1)) (λ k. (k.0, before-none (start t) most k.1))

  -- the store's reader
  abbrev reader : Oldest
  reader = oldest_of start 16

  -- where there is one it is a session below M, and began first
  reader-below : reader.number ≢ 0 → reader.place < M
  reader-below n =
      let r = (oldest-is start 16).some n in
      ⊎_elim (λ l. rw h.m-same at l) (λ z. absurd (n (sym r.1 ∙ idle-starts end (session_at d reader.place).phase z))) (h.coherent.idle reader.place r.0)

  reader-first : reader.number ≢ 0 → first reader.place ≡ true
  reader-first n =
      let r = oldest-is start 16 in
      let e = (r.some n).1 in
      (says_first reader.place (reader-below n)).no
      (λ z. n (sym e ∙ z), λ u l k. omega (arith, e, r.least u (session-small N M img d h u l) k))

  agrees : (o : Option ℕ) → Lowest first M o → Agrees reader o
  agrees none g = go (ℕ_discrete reader.number 0)
    where
      go : Dec (reader.number ≡ 0) → reader.number ≡ 0
      go (yes z) = z
      go (no n) = absurd (T_not (first reader.place) (g reader.place (reader-below n)) (rw (reader-first n) tt))
  agrees (some t) g = (there, go (dec_lt reader.place t) (dec_lt t reader.place))
    where
      began : (start t ≢ 0) × From (start t)
      began = (says_first t g.below).yes (passes _ g.passes)

      there : reader.number ≢ 0
      there z = began.0 ((oldest-is start 16).none z t (session-small N M img d h t g.below))

      go : Dec (reader.place < t) → Dec (t < reader.place) → reader.place ≡ t
      go (yes l) b = absurd (T_not (first reader.place) (g.first reader.place l) (rw (reader-first there) tt))
      go (no a) (yes l) =
          let r = oldest-is start 16 in
          let e = (r.some there).1 in
          absurd (omega (arith, e, r.first there t l began.0, began.1 reader.place (reader-below there) (λ z. there (sym e ∙ z))))
      go (no a) (no b) = omega arith

  -- it is the session awaited
  reader-agrees : Agrees reader (awaited M (abs d) end)
  reader-agrees = agrees (awaited M (abs d) end) (first_of? first M)

-- ---- the call

-- settle past its checks, and where a check refuses
abbrev settle-call : (d : Desk) (f : ℕ → ℕ) → ℕ → ℕ → Checked d f
settle-call d f len s =
    record {
      call = settle len s;
      Gives = StoringReply (Answered ℕ);
      tells = λ r. settle_told r.answer;
      left = λ r. r.desk;
      refused = settle_refused d;
      done = settle_done d s;
      listed = cond (waits_b d s) [] (go_home_entries d s);
      refuses = tells-cause;
      keeps = λ k. refl;
      notes = λ k. refl;
    }

module _ (N M : ℕ) (img : List ℕ) (d : Desk) (f : ℕ → ℕ) (len s : ℕ) (h : Ready N M img d) (l : s < M) where
  -- the entry of session s
  abbrev e : Session
  e = session_at d s

  waits-agree : (end : ℕ) → e.phase ≡ Published end → Agrees (oldest_reader d s) (awaited M (abs d) end)
  unfolding oldest_reader
  waits-agree end z =
      subst (λ (p : Phase). Agrees (oldest_of (λ t. start_below (end_of p) (session_at d t).phase) 16) (awaited M (abs d) end)) (sym z) (reader-agrees N M img d h end)

  -- a published session, by the reader it waits for
  settled : (o : Option ℕ) → Agrees (oldest_reader d s) o → Does d f (settle-call d f len s) 0 (waits (copies_of e) o)
  unfolding answered
  settled none z =
      rw (eq-eqb (oldest_reader d s).number 0 z)
      (record {
        answers = refl;
        stored = ap (λ ws. stores ws ++ (fence ∷ [])) (homes-copies e (fits N M img d s h l));
        desk = abs-put d d.clock d.n d.m s idle_session (unmarked d.holders e.copies e.count) (session-there N M img d h s l);
      })
  settled (some t) z = rw (ne_eqb (oldest_reader d s).number 0 z.0, z.1) (says-only (settle len s) f d (wait t) refl)

  -- by the session's phase
  by-phase : (p : Phase) → e.phase ≡ p → Does d f (settle-call d f len s) (unless (is_published p) 6) (settles M (abs d) (txn-of p e.slot (copies_of e)))
  by-phase Idle z = does-refuse d f (settle-call d f len s) 5 (omega arith)
  by-phase (Active b) z = does-refuse d f (settle-call d f len s) 5 (omega arith)
  by-phase (Sealed n) z = does-refuse d f (settle-call d f len s) 5 (omega arith)
  by-phase (Published end) z = settled (awaited M (abs d) end) (waits-agree end z)

pub settle-sim : (N M : ℕ) (img : List ℕ) (d : Desk) (f : ℕ → ℕ) (k : History) (len s : ℕ) → Ready N M img d
    → Sim (settle len s) f d (settle_told (settle_reply img d len s).answer) (settle_entries img d len s) (settle_reply img d len s).desk
    (due_of N M f (ceiling_of img) (abs d) k (settle len s))
unfolding settle_reply settle_entries settle_fault
settle-sim N M img d f k len s h =
    past-four d f (settle-call d f len s) N M img len s _ _ h (λ l. by-phase N M img d f len s h l (session_at d s).phase refl)
