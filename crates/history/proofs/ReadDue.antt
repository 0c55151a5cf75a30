-- What an image and a desk show of a record is what is due: the history's view at the reader's start.
use Prim.Native.Nat.{ℕ, ◌<◌}
use mathlib.Core.Path.{◌≡◌, refl, sym, ap}
use mathlib.Core.Logic.{inr}
use mathlib.Core.Bool.{Bool, true, false, cond, not}
use mathlib.Core.Option.{Option, none, some}
use mathlib.Core.List.{List, []}
use native.Mathlib.Decide.{ℕ_discrete}
use native.Mathlib.Omega.{arith}
use lib.ListN.{get_or}
use lib.Dec.{T, leb}
use borrow.Author.Tests.{leb-true}
use Rattle.layout.specs.Image.{home_at, home_words}
use Rattle.layout.specs.Told.{Told, copied, home}
use Rattle.history.specs.Layout.{view}
use Rattle.history.specs.Desk.{Copy, find, spot, Session, idle, active, sealed, published, copies, Desk, found, holder}
use Rattle.history.specs.Due.{four_words, shown_to, shown_by, reads_other}
use Rattle.history.specs.History.{History, view_at}
use Rattle.history.proofs.Book.{own_view}
use Rattle.history.proofs.Copies.{Mem, Fresh, Found, find?, Lowest, first_of?}
use Rattle.history.proofs.Invariant.{Fine, NoOne, shown, shown-copies}
use Rattle.history.proofs.Kept.{Holds}

-- the home words of a record are those of a list where they are word by word
pub four-words : (img : List ℕ) (r : ℕ) (ws : List ℕ) → ((j : ℕ) → j < 4 → get_or img (spot r j) 0 ≡ get_or ws j 0) → home_words img r ≡ four_words ws
four-words img r ws f =
    let e : spot r 0 ≡ home_at r = omega arith in
    let a : get_or img (home_at r) 0 ≡ get_or ws 0 0 = rw e at (f 0 (omega arith)) in
    rw (a, f 1 (omega arith), f 2 (omega arith), f 3 (omega arith)) refl

-- what the holder shows to a reader with the start b
abbrev pub shown_of : ℕ → Desk → Option ℕ → List Copy
shown_of b d none = []
shown_of b d (some t) = shown b (d.session t)

-- a copy that is shown, or else the home record
abbrev pub looked : Option (List ℕ) → List ℕ → Told
looked (some ws) stands = copied ws
looked none stands = home stands

module _ (N M : ℕ) (img : List ℕ) (d : Desk) (h : History) (H : Holds N M img d h) (b r : ℕ) where
  -- a shown copy is the view
  shown-view : (t : ℕ) → t < M → (ws : List ℕ) → Mem r ws (shown b (d.session t)) → view_at h b r ≡ ws
  shown-view t lt ws m = go (d.session t) (H.inv.fine t lt) m
    where
      go : (x : Session) → Fine N (view N img) h d.clock t x → Mem r ws (shown b x) → view_at h b r ≡ ws
      go idle f k = absurd k
      go (active c p ds) f k = absurd k
      go (sealed n p ds) f k = absurd k
      go (published e p ds) f k = at (leb e b) refl k
        where
          at : (z : Bool) → leb e b ≡ z → Mem r ws (cond z ds []) → view_at h b r ≡ ws
          at true z k' = own_view t ds r ws k' e b h.sealed f.0.entry (leb-true e b z) f.0.lawful.distinct (h.opening r)
          at false z k' = absurd k'

  module _ (s q : ℕ) (cs : List Copy) (l : s < M) (lr : r < N) (is : d.session s ≡ active b q cs) where
    -- nobody shows it: the view is the home record
    home-view : NoOne M (shown b) d r → home (home_words img r) ≡ home (four_words (view_at h b r))
    home-view nn = ap home (four-words img r (view_at h b r) (λ j lj. H.inv.views r b lr (inr (s, l, rw is refl)) nn j lj))

    -- the holder is the one session that may show it
    by-holder : (o : Option ℕ) → Lowest (λ t. found (find r (copies (d.session t)))) M o
        → looked (find r (shown_of b d o)) (home_words img r) ≡ (reads_other (shown_by b d o) (view_at h b r)).answer
    by-holder none g = home-view (λ t lt ws m. unheld (copies (d.session t)) (g t lt) ws (shown-copies b (d.session t) r ws m))
      where
        unheld : (cs : List Copy) → T (not (found (find r cs))) → Fresh r cs
        unheld cs t = go (find r cs) (find? r cs) t
          where
            go : (o : Option (List ℕ)) → Found r cs o → T (not (found o)) → Fresh r cs
            go none f t = f
            go (some ws) f t = absurd t
    by-holder (some t) g = go (shown_to b (d.session t)) refl (find r (copies (d.session t))) (find? r (copies (d.session t))) g.passes
      where
        go : (z : Bool) → shown_to b (d.session t) ≡ z → (o : Option (List ℕ)) → Found r (copies (d.session t)) o → T (found o)
            → looked (find r (cond z (copies (d.session t)) [])) (home_words img r) ≡ (reads_other z (view_at h b r)).answer
        go z e none f p = absurd p
        go true e (some ws) f p = shows (find r (copies (d.session t))) (find? r (copies (d.session t)))
          where
            shows : (o : Option (List ℕ)) → Found r (copies (d.session t)) o → looked o (home_words img r) ≡ copied (view_at h b r)
            shows none f' = absurd (f' ws f)
            shows (some vs) f' = ap copied (sym (shown-view t g.below vs (rw e f')))
        go false e (some ws) f p = home-view nobody
          where
            nobody : NoOne M (shown b) d r
            nobody u lu vs m = at (ℕ_discrete u t)
              where
                at : Dec (u ≡ t) → ⊥
                at (yes k) = rw (k, e) at m
                at (no n) = H.inv.excl u t lu g.below n r vs ws (shown-copies b (d.session u) r vs m) f

    pub read-due : looked (find r (shown_of b d (holder M d r))) (home_words img r) ≡ (reads_other (shown_by b d (holder M d r)) (view_at h b r)).answer
    read-due = by-holder (holder M d r) (first_of? (λ t. found (find r (copies (d.session t)))) M)
