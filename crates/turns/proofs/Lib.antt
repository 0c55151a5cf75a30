mod MakeLaws
