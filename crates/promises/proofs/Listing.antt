-- The text is by definition that of the first 4,096 bytes, and each of its cases is told by the test that leads to it.
use Rattle.std.specs.Prelude.{Ok}
use mathlib.Core.Path.{◌≡◌, sym, ap, ◌∙◌, subst}
use mathlib.Core.List.{List}
use Prim.Native.Nat.{ℕ, ◌*◌, ◌/◌, ◌≤◌}
use lib.ListN.{length, take, drop}
use Rattle.switch.proofs.Check.{some-ports, no-ports, many-ports}
use Rattle.demand.proofs.Check.{fine}
use Rattle.wishes.specs.Wishes.{Demanded, demand_of}
use Rattle.wishes.proofs.Answers.{searched}
use Rattle.wishes.proofs.Cells.{demanded, demanded-only}
use Rattle.listing.specs.Listing.{ports_of, checked_text, demand_text, wished_text, wish_text, listing_of}
use Rattle.listing.proofs.Ports.{ports-are}
use Rattle.listing.proofs.Answers.{wish-ports, list-first}
use Rattle.promises.specs.Calls.{Listing}
use Rattle.switch.specs.Editions.{first_edition}
use Rattle.promises.specs.Wishes.{GoodList}
use Rattle.promises.specs.Listing.{Shows, Listed}
use Rattle.promises.proofs.Wishes.{good-list}
use Rattle.promises.proofs.Laid.{laid-behind}

module _ (w : List ℕ) where
  abbrev N : ℕ
  N = ports_of w

  abbrev count : ℕ
  count = length w / 8

  module _ (small : N ≤ 16) (good : GoodList first_edition N w (N * N)) (d : List ℕ) (is : Demanded N w count d) where
    is-demand : d ≡ demand_of N w count
    is-demand = demanded-only N w count d (demand_of N w count) is (demanded N w count (good-list first_edition N w (N * N) good))

    wished : wish_text N w ≡ demand_text N d
    unfolding wish_text
    wished =
        ap (wished_text N w) (searched 16 N w (N * N) (some-ports 16 N good.some small) (λ _. N * N) good.even (Ok tt) (good-list first_edition N w (N * N) good))
        ∙ ap (demand_text N) (sym is-demand)

  pub shows : Shows w N (wish_text N w)
  shows = record {
    ports = ports-are w count;
    none = λ e. sym (wish-ports N w (no-ports 16 N e));
    many = λ l. sym (wish-ports N w (many-ports 16 N l));
    plan = λ d small good is short. wished small good d is
        ∙ (unfold demand_text in ap (checked_text N d) (sym (fine 64 N d (some-ports 64 N good.some good.few) is.size short)));
    wish = λ x e. unfold wish_text in ap (wished_text N w) e;
    line = λ d x small good is e. wished small good d is ∙ (unfold demand_text in ap (checked_text N d) e);
  }

-- the lister's text
pub listing-promise : (input text : List ℕ) (r : ℕ) (after : List ℕ) → Listing input text r after → Listed input text r after
listing-promise input text r after met = record {
  ports = ports_of (take 4096 input);
  shows = subst (Shows (take 4096 input) (ports_of (take 4096 input))) (list-first input ∙ sym met.2) (shows (take 4096 input));
  later = ap (drop r) met.1 ∙ laid-behind text (listing_of input) r (sym met.0);
}
