use Rattle.std.specs.Prelude.{◌-◌, codes, decimal, map}
use Rattle.std.proofs.Common.{◌≡◌, [], ◌∷◌, ◌++◌, append_assoc, arith}
use Rattle.net_make.specs.Made.{connector_line, connectors, main_cells}
use Rattle.net_make.proofs.LineOrder.{main_cells-more, text_of-append, text_of-map-more}
use Rattle.net_make.proofs.connectors.put_connectors.Goals as goal

pub loop-i-preserved : goal.loop-i-preserved
loop-i-preserved c =
    rw (c.in_ok-put_connector.ensures, c.loop-i.invariant, main_cells-more c.loop-i.i, text_of-map-more (connector_line c.args.size) (main_cells c.loop-i.i) c.loop-i.i)
    (simp append_assoc)

pub returns : goal.returns
unfolding connectors
returns c =
    let all : c.loop-i.i ≡ c.args.size - 1 = omega arith in
    let last = text_of-append (map (connector_line c.args.size) (main_cells (c.args.size - 1))) ((codes "link,m" ++ decimal (c.args.size - 1) ++ codes ",out") ∷ []) in
    rw (c.in_ok-put_last_link.ensures, c.loop-i.invariant, all, c.in_ok-extend_from_slice.ensures.items, last) (simp append_assoc)
