-- A room that shows all regions which stand together is a lawful snapshot.
use Rattle.std.specs.Prelude.{slice_index}
use Rattle.std.proofs.Common.{◌≡◌, ℕ, ◌+◌, ◌<◌, ◌≤◌, List, [], length, refl, sym, ap, subst, ◌∙◌, arith}
use Rattle.std.proofs.lemmas.List.{ext_get_or}
use Rattle.atomic_table.specs.Seated.{TableId}
use Rattle.network_file.specs.Network.{Network}
use Rattle.region_cut.specs.Cuttings.{region_at, region_count}
use Rattle.region_cut.specs.LawfulSteps.{AreLawful}
use Rattle.region_cut.proofs.Membership.{region_at-there}
use Rattle.region_step.specs.Grid.{grid_before, grid_row}
use Rattle.snapshot.specs.Rooms.{IsRoomFor, RoomValue}
use Rattle.snapshot.specs.Snapshots.{IsSnapshot}
use Rattle.snapshot.proofs.ShotLaws.{books-kept, snapshot-rooms, snapshot-stand}
use Rattle.snapshot.proofs.Showing.{shown-before, shown-row, shown-step}
use Rattle.border_rows.specs.Kinds.{gathered}
use Rattle.border_rows.specs.declared.view.Terms.{Terms}
use Rattle.border_rows.specs.declared.view.View.{View}
use Rattle.region_slots.specs.Closing.{steps_since}
use Rattle.region_slots.specs.FieldView.{IsTableFor}
use Rattle.region_slots.specs.Gathering.{HasGathered}
use Rattle.region_slots.specs.Plays.{Mine}
use Rattle.region_slots.specs.Shooting.{HasShot, IsWhole}
use Rattle.region_slots.proofs.Copying.{AreShown}

-- it shows the steps that were seen
pub shown-steps : (terms : Terms) (seen : List ℕ) (room : RoomValue) → length seen ≡ region_count terms.setup.now.chart.cut → IsRoomFor terms.setup.now.chart room → AreShown terms seen 0 room → room.steps ≡ seen
shown-steps terms seen room long fits shown =
    ext_get_or 0 room.steps seen (fits.steps ∙ sym long)
    (λ r within.
    let (state, stands, shows) = shown r (omega arith) (omega (arith, within, fits.steps)) in
    shown-step terms.setup.now r (slice_index seen r) state room stands shows)

shown-snapshot : (terms : Terms) (table : TableId) (seen : List ℕ) (room : RoomValue) → IsTableFor terms table → IsRoomFor terms.setup.now.chart room → AreShown terms seen 0 room →
    AreLawful terms.setup.now.net terms.setup.now.chart.cut seen → ((r : ℕ) → r < region_count terms.setup.now.chart.cut → slice_index terms.setup.now.start.steps r ≤ slice_index seen r) →
    IsSnapshot terms.setup.now.net terms.setup.now.chart.cut terms.setup.now.start room
shown-snapshot terms table seen room field fits shown lawful started =
    let cut : List ℕ = terms.setup.now.chart.cut in
    let steps : room.steps ≡ seen = shown-steps terms seen room lawful.one_each fits shown in
    let step : (r : ℕ) → slice_index seen r ≡ slice_index room.steps r = λ r. ap (λ l. slice_index l r) (sym steps) in
    record {
      lawful = subst (AreLawful terms.setup.now.net cut) (sym steps) lawful;
      started = λ r there. omega (arith, started r there, step r);
      rows = λ i there.
          let r : ℕ = region_at cut i in
          let (state, stands, shows) = shown r (omega arith) (region_at-there cut i) in
          shown-row terms.setup.now r (slice_index seen r) i state room field.sound field.charted (region_at-there cut i) stands shows there refl ∙
          ap (λ t. grid_row terms.setup.now.net cut terms.setup.now.start t i) (step r);
      earlier = λ i there.
          let r : ℕ = region_at cut i in
          let (state, stands, shows) = shown r (omega arith) (region_at-there cut i) in
          shown-before terms.setup.now r (slice_index seen r) i state room field.sound field.charted (region_at-there cut i) stands shows there refl ∙
          ap (λ t. grid_before terms.setup.now.net cut terms.setup.now.start t i) (step r);
    }

pub has-shot : (terms : Terms) (table : TableId) (old : View) (me : Mine) (room : RoomValue) → IsTableFor terms table → HasGathered terms old (region_count terms.setup.now.chart.cut) me →
    AreLawful terms.setup.now.net terms.setup.now.chart.cut me.0.seen → ((r : ℕ) → r < region_count terms.setup.now.chart.cut → slice_index terms.setup.now.start.steps r ≤ slice_index me.0.seen r) →
    IsRoomFor terms.setup.now.chart room → AreShown terms me.0.seen 0 room → HasShot terms old (record (gathered me.0) { holds = [] }) room
has-shot terms table old me room field has lawful started fits shown =
    let net : Network = terms.setup.now.net in
    let cut : List ℕ = terms.setup.now.chart.cut in
    let steps : room.steps ≡ me.0.seen = shown-steps terms me.0.seen room lawful.one_each fits shown in
    let shows : IsSnapshot net cut terms.setup.now.start room = shown-snapshot terms table me.0.seen room field fits shown lawful started in
    record {
      snapshot = shows;
      seen = sym steps;
      later = λ r there. omega (arith, has.unmoved.seen.later r, ap (λ l. slice_index l r) steps);
      looks = has.looks;
      moments = ap (λ n. n + 1) has.moments.0;
      moment = sym steps;
      rooms = snapshot-rooms net cut terms.setup.now.start room field.sound field.fits shows;
      recurrences = λ true_start. (snapshot-stand net cut terms.setup.now.start room field.sound field.lawful true_start shows).each;
      books = λ true_start. books-kept net cut room.steps room.rows field.sound (snapshot-stand net cut terms.setup.now.start room field.sound field.lawful true_start shows);
    }

-- what the whole share knows of the steps
pub whole-shown : (terms : Terms) (view : View) (seen steps : List ℕ) → steps ≡ seen → IsWhole terms view seen → IsWhole terms (record (gathered view) { holds = [] }) steps
whole-shown terms view seen steps same whole = record {
  moves = ap (steps_since terms.setup.now.start (region_count terms.setup.now.chart.cut)) same ∙ whole.moves;
  reached = λ r there. omega (arith, whole.reached r there, ap (λ l. slice_index l r) same);
}
