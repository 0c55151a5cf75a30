-- Finish in the listening room, by what the store's finish gives.
use Prim.Native.Nat.{ℕ, zero, suc, ◌≤◌}
use mathlib.Core.Bool.{Bool, true, false, cond, ◌||◌, false≢true}
use mathlib.Core.Path.{◌≡◌, refl, sym, ap, ◌∙◌}
use mathlib.Core.List.{List, []}
use native.Mathlib.Omega.{arith}
use lib.Dec.{ltb}
use Rattle.std.specs.Prelude.{Option, Err}
use Rattle.std.specs.Result.{result_and}
use Rattle.layout.specs.Checks.{unless, first, answered, room_for}
use Rattle.layout.specs.Refusal.{Answer, answer_of}
use Rattle.layout.specs.Told.{refusal, empty}
use Rattle.layout.specs.declared.refusal.Refusal.TheVariants.{CopiesHeld}
use Rattle.layout.proofs.ToldLaws.{known}
use Rattle.layout.proofs.ChecksLaws.{first-both, unless-zero, answered-zero, first-most, unless-most}
use Rattle.desk.specs.Coherent.{limit}
use Rattle.desk.specs.Desk.{session_at, is_active}
use Rattle.desk.specs.Entering.{image_fault}
use Rattle.desk.specs.declared.state.Desk.{Desk}
use Rattle.desk.proofs.Entered.{Entered, entered, entry-most}
use Rattle.commit.specs.Finish.{finish_fault, finish_entries, seal_entries, finish_refused, finish_done, finish_reply}
use Rattle.commit.specs.Told.{finish_told}
use Rattle.desk.specs.declared.reply.StoringReply.{StoringReply}
use Rattle.listening.specs.Listener.{no_copies, holds_copies, listener_fault}
use Rattle.listening.specs.Finish.{listen_finish_reply, listen_finish_said}
use Rattle.listening.proofs.Holding.{bare-entered, held-some}

-- what holds once the checks of the listening room have passed
pub record Listener (img : List ℕ) (d : Desk) (room : Bool) (s : ℕ) : Type 0 where
  pub entry : image_fault img d room s ≡ 0
  pub session : Entered img d room s
  pub active : is_active (session_at d s).phase ≡ true
  pub bare : no_copies d s ≡ true

pub listener : (img : List ℕ) (d : Desk) (room : Bool) (s : ℕ) → listener_fault img d room s ≡ 0 → Listener img d room s
unfolding listener_fault
listener img d room s e =
    let a = first-both (image_fault img d room s) _ e in
    let b = first-both (unless (is_active (session_at d s).phase) 6) _ a.1 in
    record {
      entry = a.0;
      session = entered img d room s a.0;
      active = unless-zero _ 5 b.0;
      bare = unless-zero _ 17 b.1;
    }

pub listener-most : (img : List ℕ) (d : Desk) (room : Bool) (s : ℕ) → listener_fault img d room s ≤ 20
unfolding listener_fault
listener-most img d room s =
    first-most 20 _ _ (omega (arith, entry-most img d room s))
    (first-most 20 _ _ (unless-most 20 (is_active (session_at d s).phase) 6 (omega arith)) (unless-most 20 (no_copies d s) 18 (omega arith)))

module _ (img : List ℕ) (d : Desk) (len s : ℕ) where
  -- past its checks it tells "empty"
  pub listen-finish-told : finish_told (listen_finish_reply img d len s).answer ≡ listen_finish_said img d len s
  unfolding listen_finish_reply listen_finish_said answered
  listen-finish-told = go (listener_fault img d (room_for len) s) refl (listener-most img d (room_for len) s)
    where
      go : (k : ℕ) → listener_fault img d (room_for len) s ≡ k → k ≤ 20
          → finish_told (answered k (finish_refused d) (finish_done img d s)).answer ≡ answered k refusal empty
      go zero e l = rw (listener img d (room_for len) s e).bare refl
      go (suc k) e l = let h = known k (omega arith) in rw (h.number, h.value) refl

  -- the store's checks pass, and it gives what it does past them
  pub finish-done : listener_fault img d (room_for len) s ≡ 0 → finish_reply img d len s ≡ finish_done img d s
  unfolding finish_reply finish_fault first
  finish-done z = let h = listener img d (room_for len) s z in rw (h.entry, h.active, h.bare) (answered-zero 0 (finish_refused d) _ refl)

  -- a session that holds no copies: the store's checks are the listening room's
  module _ (n : holds_copies d s ≡ false) where
    same-fault : finish_fault img d len s ≡ listener_fault img d (room_for len) s
    unfolding finish_fault listener_fault first
    same-fault = go (image_fault img d (room_for len) s) refl
      where
        rest : ℕ → ℕ
        rest k = first k (first (unless (is_active (session_at d s).phase) 6) (unless (no_copies d s || ltb d.clock limit) 10))

        go : (k : ℕ) → image_fault img d (room_for len) s ≡ k
            → rest k ≡ first k (first (unless (is_active (session_at d s).phase) 6) (unless (no_copies d s) 18))
        go zero e = rw (bare-entered img d (room_for len) s n e) refl
        go (suc k) e = refl

    pub finish-left : finish_reply img d len s ≡ listen_finish_reply img d len s
    unfolding finish_reply listen_finish_reply
    finish-left = ap (λ k. answered k (finish_refused d) (finish_done img d s)) same-fault

    -- and nothing is stored
    pub nothing_stored : finish_entries img d len s ≡ []
    unfolding finish_entries answered
    nothing_stored = go (finish_fault img d len s) (same-fault)
      where
        go : (k : ℕ) → k ≡ listener_fault img d (room_for len) s → answered k (λ j. []) (cond (no_copies d s) [] (seal_entries img d s)) ≡ []
        go zero e = rw (listener img d (room_for len) s (sym e)).bare refl
        go (suc k) e = refl

  -- it lists no entries
  pub no-entries : (listen_finish_reply img d len s).entries ≡ 0
  unfolding listen_finish_reply answered
  no-entries = go (listener_fault img d (room_for len) s) refl
    where
      go : (k : ℕ) → listener_fault img d (room_for len) s ≡ k → (answered k (finish_refused d) (finish_done img d s)).entries ≡ 0
      go zero e = rw (listener img d (room_for len) s e).bare refl
      go (suc k) e = refl

  -- one that holds copies is refused, by 18 if by nothing before it
  pub finish-turned : holds_copies d s ≡ true → (start : ℕ) {x : Answer ℕ} {o : Answer (Option ℕ)} → x ≡ answer_of (listener_fault img d (room_for len) s) start
      → o ≡ result_and x (Err CopiesHeld) → record { answer = o; entries = 0; desk = d } ≡ listen_finish_reply img d len s
  unfolding listen_finish_reply answered
  finish-turned n start e f = rw (f, e) (go (listener_fault img d (room_for len) s) refl)
    where
      go : (k : ℕ) → listener_fault img d (room_for len) s ≡ k
          → ◌≡◌ {A = StoringReply (Option ℕ)} (record { answer = result_and (answer_of k start) (Err CopiesHeld); entries = 0; desk = d })
          (answered k (finish_refused d) (finish_done img d s))
      go zero z = absurd (false≢true (sym (held-some d s n) ∙ (listener img d (room_for len) s z).bare))
      go (suc k) z = refl
