use Rattle.std.specs.Prelude.{Ok, nat_lt}
use Rattle.std.specs.List.{list_all}
use Rattle.std.proofs.Common.{◌≡◌, ◌≢◌, length, ap, arith, refl, sym, ◌∙◌}
use Rattle.network_file.specs.Limits.{most_regions}
use Rattle.region_cut.specs.CutFaults.{cut_of}
use Rattle.region_cut.specs.Cuttings.{region_count}
use Rattle.saved_run.specs.Heads.{content_in}
use Rattle.saved_run.proofs.Cuttings.{cutting_in-Err, cutting_in-Ok, cutting_in-few, cutting_in-other, regions_in}
use Rattle.saved_run.proofs.layout_in.layout_in.Goals as goal

pub returns-in_default-clause-refusal : goal.returns-in_default-clause-refusal
returns-in_default-clause-refusal c =
    let told = rw c.in_default.is at c.in_ok-regions.ensures in (
      refl,
      λ network. cutting_in-other c.args.net.now (content_in c.args.head.now network)
          (ap (λ rows. list_all (λ region. nat_lt region most_regions) (regions_in rows)) (sym c.deref.ensures.value) ∙ told),
    )

pub returns-in-Err-Fault-clause-refusal : goal.returns-in-Err-Fault-clause-refusal
returns-in-Err-Fault-clause-refusal c =
    let told = rw c.in-Some.is at c.in_ok-regions.ensures in
    let regions : c.deref-2.result.now ≡ regions_in c.args.head.now.rows.items = c.deref-2.ensures.value ∙ told ∙ ap regions_in c.deref.ensures.value in
    let refused = rw c.in-Err-Fault.field-0-is at c.in-Err-Fault.ensures.refusal in
    (refl, λ network. cutting_in-Err c.args.net.now (content_in c.args.head.now network) c.in-Err-Fault.field-0-0 (ap (cut_of c.args.net.now) (sym regions) ∙ refused))

pub returns-then-regions-len-clause-cutting : goal.returns-then-regions-len-clause-cutting
returns-then-regions-len-clause-cutting c =
    let told = rw c.in-Some.is at c.in_ok-regions.ensures in
    let regions : c.deref-2.result.now ≡ regions_in c.args.head.now.rows.items = c.deref-2.ensures.value ∙ told ∙ ap regions_in c.deref.ensures.value in
    let cut = ap (cut_of c.args.net.now) (sym regions) ∙ c.in-Ok.ensures.cut ∙ ap Ok (sym c.in_ok-layout.ensures.cut) in
    let same : region_count c.in_ok-layout.layout.chart.cut ≡ length c.args.head.now.steps.items = omega (arith, c.if-regions-len.true, c.regions.ensures.count, c.len.ensures, c.args.head.now.steps.ok.0) in
    λ network. cutting_in-Ok c.args.net.now (content_in c.args.head.now network) c.in_ok-layout.layout.chart.cut cut same

pub returns-clause-refusal : goal.returns-clause-refusal
returns-clause-refusal c =
    let told = rw c.in-Some.is at c.in_ok-regions.ensures in
    let regions : c.deref-2.result.now ≡ regions_in c.args.head.now.rows.items = c.deref-2.ensures.value ∙ told ∙ ap regions_in c.deref.ensures.value in
    let cut = ap (cut_of c.args.net.now) (sym regions) ∙ c.in-Ok.ensures.cut ∙ ap Ok (sym c.in_ok-layout.ensures.cut) in
    let differ : region_count c.in_ok-layout.layout.chart.cut ≢ length c.args.head.now.steps.items = λ same. absurd (omega (arith, c.if-regions-len.false, same, c.regions.ensures.count, c.len.ensures, c.args.head.now.steps.ok.0)) in
    (refl, λ network. cutting_in-few c.args.net.now (content_in c.args.head.now network) c.in_ok-layout.layout.chart.cut cut differ)
