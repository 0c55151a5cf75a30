-- Write keeps the invariant.
use Prim.Native.Nat.{ℕ, suc, ◌≤◌, ◌<◌}
use mathlib.Core.Path.{◌≡◌, refl, sym, ap, ◌∙◌}
use mathlib.Core.Logic.{◌⊎◌, inl, inr, ◌≢◌}
use mathlib.Core.Bool.{Bool, true, false, cond, not}
use mathlib.Core.Option.{Option, none, some}
use mathlib.Core.List.{List, [], ◌∷◌}
use native.Mathlib.Omega.{arith}
use lib.ListN.{length, get_or}
use lib.Dec.{T, eqb, leb, eqb→eq, nleb→lt}
use Rattle.layout.specs.Image.{place_of}
use Rattle.layout.specs.Told.{refused, ok}
use Rattle.history.specs.Layout.{view}
use Rattle.history.specs.Call.{write}
use Rattle.history.specs.Desk.{Copy, find, put, Session, idle, active, sealed, published, copies, Desk, found, holder}
use Rattle.history.specs.Due.{say, refuse, adds, writes_held, writes_own, wrote, due_of}
use Rattle.history.specs.History.{History, drafted}
use Rattle.history.specs.Ledger.{slot_now}
use Rattle.history.proofs.Copies.{Mem, Fresh, Apart, Found, find?, mem-put, distinct-put, length-put, length-put-own, upd_same, upd_other, Lowest, first_of?}
use Rattle.history.proofs.Invariant.{Lawful, Active}
use Rattle.history.proofs.MoveQuiet.{quiet}
use Rattle.history.proofs.Kept.{Holds, Done, said, refusing, past-session, past-record, idles, emptied}

mem-some : (r : ℕ) (ws : List ℕ) (cs : List Copy) → Mem r ws cs → 1 ≤ length cs
mem-some r ws [] m = absurd m
mem-some r ws (c ∷ cs) m = omega arith

slot_now-own : (r : ℕ) (ws : List ℕ) (s q : ℕ) (f : ℕ → ℕ) (cs : List Copy) → Mem r ws cs → slot_now s f q cs ≡ q
slot_now-own r ws s q f [] m = absurd m
slot_now-own r ws s q f (c ∷ cs) m = refl

lawful-put : (N r : ℕ) (ws : List ℕ) (cs : List Copy) → r < N → Lawful N cs → length (put r ws cs) ≤ 4 → Lawful N (put r ws cs)
lawful-put N r ws cs l g few = record {
  distinct = distinct-put r ws cs g.distinct;
  below = λ u v m. go u v (mem-put r ws cs u v m);
  few = few;
}
  where
    go : (u : ℕ) (v : List ℕ) → (u ≡ r) ⊎ Mem u v cs → u < N
    go u v (inl e) = rw e l
    go u v (inr m) = g.below u v m

no-holder : (r : ℕ) (cs : List Copy) → T (not (found (find r cs))) → Fresh r cs
no-holder r cs t = go (find r cs) (find? r cs) t
  where
    go : (o : Option (List ℕ)) → Found r cs o → T (not (found o)) → Fresh r cs
    go none f t = f
    go (some ws) f t = absurd t

module _ (N M : ℕ) (img : List ℕ) (d : Desk) (h : History) (H : Holds N M img d h) (s r : ℕ) (ws : List ℕ) where
  module _ (l : s < M) (lr : r < N) (b q : ℕ) (cs : List Copy) (is : d.session s ≡ active b q cs) where
    act : Active N (view N img) h d.clock s b q cs
    act = rw is at (H.inv.fine s l)

    alone : (u : ℕ) → u < M → u ≢ s → Apart cs (copies (d.session u))
    alone u lu n = rw is at (H.inv.excl s u l lu (λ e. n (sym e)))

    -- the copy is kept, in slot q'
    keep : (q' : ℕ) → slot_now s (view N img).number q cs ≡ q' → q' < 2 → (view N img).number (place_of s q') ≡ 0 → length (put r ws cs) ≤ 4 → ((u : ℕ) → u < M → u ≢ s → Fresh r (copies (d.session u)))
        → Done N M img d h (write s r ws) (say ok)
    keep q' sl lq z few fr = said N M img d h H (write s r ws) ok _ refl refl (λ _. refl) (record { clock = omega arith; views = λ σ u k. refl })
        (quiet N M (view N img) d h (drafted s (put r ws (h.draft s)) h) s (active b q' (put r ws cs)) H.inv l (rw is tt) tt
        (record { opening = refl; sealed = refl; drafts = λ u n. upd_other s _ h.draft u n; starts = λ u n. refl })
        (record {
          lawful = lawful-put N r ws cs lr act.lawful few;
          begun = act.begun;
          reserved = lq;
          vacant = λ _. z;
          drafted = upd_same s _ h.draft ∙ ap (put r ws) act.drafted;
          noted = act.noted;
        })
        out
        (λ σ st. inr (s, l, rw is st)))
        (rw (is, sl) refl) (λ _. refl)
      where
        out : (u : ℕ) → u < M → u ≢ s → Apart (put r ws cs) (copies (d.session u))
        out u lu n t y z' m k = go (mem-put r ws cs t y m)
          where
            go : (t ≡ r) ⊎ Mem t y cs → ⊥
            go (inl e) = fr u lu n z' (rw e at k)
            go (inr m') = alone u lu n t y z' m' k

    adds-done : ((u : ℕ) → u < M → Fresh r (copies (d.session u))) → (ds : List Copy) → cs ≡ ds → Done N M img d h (write s r ws) (adds (view N img).number s ds)
    adds-done fr [] e = go (eqb ((view N img).number (place_of s 0)) 0) refl (eqb→eq _ 0) (eqb ((view N img).number (place_of s 1)) 0) (eqb→eq _ 0)
      where
        first : (q' : ℕ) → slot_now s (view N img).number q [] ≡ q' → q' < 2 → (view N img).number (place_of s q') ≡ 0 → Done N M img d h (write s r ws) (say ok)
        first q' sl lq z = (keep q' (ap (slot_now s (view N img).number q) e ∙ sl) lq z (rw e (omega arith)) (λ u lu _. fr u lu))

        go : (b₀ : Bool) → eqb ((view N img).number (place_of s 0)) 0 ≡ b₀ → (T b₀ → (view N img).number (place_of s 0) ≡ 0) → (b₁ : Bool) → (T b₁ → (view N img).number (place_of s 1) ≡ 0)
            → Done N M img d h (write s r ws) (cond b₀ (say ok) (cond b₁ (say ok) (refuse 9)))
        go true z y b₁ y₁ = first 0 (rw z refl) (omega arith) (y tt)
        go false z y true y₁ = first 1 (rw z refl) (omega arith) (y₁ tt)
        go false z y false y₁ = refusing N M img d h H (write s r ws) 9 refl
    adds-done fr (c ∷ ds) e = go (leb 4 (length (c ∷ ds))) (nleb→lt 4 (length (c ∷ ds)))
      where
        go : (t : Bool) → (T (not t) → length (c ∷ ds) < 4) → Done N M img d h (write s r ws) (cond t (refuse 8) (say ok))
        go true f = refusing N M img d h H (write s r ws) 8 refl
        go false f = (keep q (ap (slot_now s (view N img).number q) e) act.reserved (act.vacant (rw e (omega arith)))
            (let x : length (put r ws cs) ≤ suc (length cs) = length-put r ws cs in let y : length cs ≡ length (c ∷ ds) = ap length e in let z : length (c ∷ ds) < 4 = f tt in omega arith)
            (λ u lu _. fr u lu))

    own-done : (o : Option (List ℕ)) → Found r cs o → Done N M img d h (write s r ws) (writes_own o (writes_held (view N img).number s cs (holder M d r)))
    own-done (some old) m =
        keep q (slot_now-own r old s q (view N img).number cs m) act.reserved (act.vacant (mem-some r old cs m))
        (let x : length (put r ws cs) ≤ length cs = length-put-own r ws old cs m in let y : length cs ≤ 4 = act.lawful.few in omega arith)
        (λ u lu n w k. alone u lu n r old w m k)
    own-done none f = go (holder M d r) (first_of? (λ t. found (find r (copies (d.session t)))) M)
      where
        go : (o : Option ℕ) → Lowest (λ t. found (find r (copies (d.session t)))) M o → Done N M img d h (write s r ws) (writes_held (view N img).number s cs o)
        go (some t) g = said N M img d h H (write s r ws) (refused 7 t) _ refl refl (λ _. refl) (record { clock = omega arith; views = λ σ u k. refl }) (idles N M img d h H s b q cs _ is l (emptied N M img d h H s)) refl (λ _. refl)
        go none g = adds-done (λ u lu. no-holder r (copies (d.session u)) (g u lu)) cs refl

  write-at : s < M → r < N → (x : Session) → d.session s ≡ x → Done N M img d h (write s r ws) (wrote M (view N img).number d s r x)
  write-at l lr idle e = refusing N M img d h H (write s r ws) 6 refl
  write-at l lr (active b q cs) e = own-done l lr b q cs e (find r cs) (find? r cs)
  write-at l lr (sealed n q cs) e = refusing N M img d h H (write s r ws) 6 refl
  write-at l lr (published f q cs) e = refusing N M img d h H (write s r ws) 6 refl

  pub write-done : Done N M img d h (write s r ws) (due_of N M (view N img).number (get_or img 3 0) d h (write s r ws))
  write-done = past-session N M img d h H (write s r ws) s _ (λ l. past-record N M img d h H (write s r ws) r _ (λ lr. write-at l lr (d.session s) refl))
