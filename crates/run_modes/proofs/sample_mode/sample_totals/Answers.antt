use Rattle.std.proofs.Common.{◌≡◌, ◌++◌, List, ℕ, refl, ap, sym, ◌∙◌}
use Rattle.std.specs.Prelude.{length, min}
use Rattle.network_file.specs.Network.{Network}
use Rattle.flow_model.specs.State.{state_at}
use Rattle.region_cut.specs.Cuttings.{even_cutting}
use Rattle.region_step.specs.Setup.{SetupValue}
use Rattle.delay_report.specs.Report.{total_line}
use Rattle.run_modes.specs.SampleMode.{sample_line, sample_of}
use Rattle.run_modes.proofs.sample_mode.sample_totals.Goals as goal

sample-is : (size seed : ℕ) (net : Network) → sample_of size seed net ≡ sample_line size seed net ++ total_line net (state_at net net.steps)
unfolding sample_of
sample-is size seed net = refl

pub returns-clause-text : goal.returns-clause-text
returns-clause-text g c =
    let net = c.args.net.now in
    let same = ap (λ (setup : SetupValue). setup.net) c.in_ok-regions.ensures.setup ∙ c.in_ok-layout.ensures.network in
    (rw same at (c.in_ok-put_last_totals.ensures.recurrences c.in_ok-regions.ensures.true_start)) ∙
    ap (λ (first : List ℕ). first ++ total_line net (state_at net net.steps)) (c.in_ok-put_sample_line.ensures ∙ ap (λ (first : List ℕ). first ++ sample_line c.args.request.size c.args.request.seed net) c.new-text.ensures.items) ∙ sym (sample-is c.args.request.size c.args.request.seed net)

pub returns-clause-told : goal.returns-clause-told
returns-clause-told g c = λ done. record {
  cut = c.in_ok-layout.layout.chart.cut;
  is = record {
    own = c.in_ok-layout.ensures.own;
    even = λ none. c.in_ok-layout.ensures.even none ∙
        ap (λ (n : ℕ). even_cutting (length c.args.net.now.cells) (min n (length c.args.net.now.cells))) c.regions_wanted.ensures.wanted;
  };
  told = rw c.in_ok-layout.ensures.network at (c.in_ok-regions.ensures.told refl);
}
