use Rattle.std.specs.Option.{option_copied}
use Rattle.mrp_commands.proofs.PageEnds.{page-ends}
use Rattle.mrp_commands.proofs.page.make_page_with.Goals as goal

pub returns : goal.returns
returns g c =
    let page = c.write_asked.ensures in
    page-ends c.args.words.now (option_copied c.args.tables) g.R.Read.remaining g.W.Write.contents c.args.input.now c.write_asked.new.input c.args.output.now c.write_asked.new.output c.write_asked.result c.of_page.result
    (record {
      whole = page.whole;
      gone_on = page.gone_on;
      wrong = page.wrong;
      run = page.run;
      tables_are = page.tables;
      stopped = page.stopped;
      untouched = page.untouched;
      gave_up = page.gave_up;
      front = page.front;
    })
    c.of_page.ensures
